-- What the table says of the trees of a row's operands it says of the values that have these types.
use Rattle.std.proofs.Common.{◌≡◌, ℕ, true, List, Option, None, length, slice_get, sym, ◌∙◌}
use Rattle.std.proofs.lemmas.Bool.{cond-true}
use Rattle.kinds.specs.declared.op.Op.{Op}
use Rattle.kinds.specs.Types.{TypeTree}
use Rattle.kinds.specs.Table.{rule_of}
use Rattle.kinds.specs.Typing.{fits_trees, given, typed, written_for}
use Rattle.dialect_core.specs.declared.ops.Value.{Value}
use Rattle.dialect_core.specs.declared.ops.Successor.{Successor}
use Rattle.dialect_core.specs.Data.{Func}
use Rattle.dialect_core.specs.Rules.{Typing, IsRow, type_nth}

module _ (types : Typing) (g : Func) (op : Op) (vs : List Value) (own : Option TypeTree) (ss : List Successor) (row : IsRow types g op vs own ss)
    (ts : List TypeTree) (count : length ts ≡ length vs) (same : (i : ℕ) → slice_get ts i ≡ type_nth types vs i) where
  pub fits_row : fits_trees op (written_for (rule_of op).gives own) ts ≡ true
  fits_row =
      let a = same 0 in
      let b = same 1 in
      let c = same 2 in
      rw (count, a, b, c) row.fits

  pub typed_row : typed op (written_for (rule_of op).gives own) ts ≡ own
  typed_row =
      let w = written_for (rule_of op).gives own in
      let a = same 0 in
      let b = same 1 in
      cond-true (fits_trees op w ts) (given (rule_of op).gives w (slice_get ts 0) (slice_get ts 1)) None fits_row ∙ rw (a, b) (sym row.result)
