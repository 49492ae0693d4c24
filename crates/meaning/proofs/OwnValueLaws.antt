-- A function of a context whose values are its own has the same body by the types that the context gives them and by those
-- that the function gives them.
use Rattle.std.proofs.Common.{◌≡◌, ℕ, suc, List, [], ◌∷◌, Some, map, length, slice_get, refl, sym, ap, ◌∙◌}
use Rattle.std.specs.List.{flat_map}
use Rattle.kinds.specs.Types.{TypeTree}
use Rattle.dialect_types.specs.Trees.{type_trees}
use Rattle.dialect_core.specs.declared.numbers.OpRef.{OpRef}
use Rattle.dialect_core.specs.declared.ops.Value.{Value}
use Rattle.dialect_core.specs.declared.ops.Successor.{Successor}
use Rattle.dialect_core.specs.ContextData.{ContextData}
use Rattle.dialect_core.specs.Data.{Kind, ConstantOp, FilledOp, RowOp, DialectBlock, DialectOp, Func, func_in, type_in, value_type}
use Rattle.dialect_core.specs.Form.{HasOwnValues, IsValueOf, uses_of}
use Rattle.dialect_core.proofs.HoldLemmas.{stands_left}
use Rattle.dialect_core.proofs.LineLemmas.{all_at}
use Rattle.dialect_core.proofs.TypingLaws.{own_type}
use Rattle.meaning.specs.Machine.{At, Action, Applies, Block, trace}
use Rattle.meaning.specs.Code.{Body}
use Rattle.meaning.specs.Setting.{Setting}
use Rattle.meaning.specs.Dialect.{option_type, typed_action, typed_row, typed_block, typed_body, same_value, start}

module _ (setting : Setting) (c : ContextData) (f : OpRef) (g : Func) (is : func_in (type_trees c.types) c f ≡ Some g) where
  abbrev Own : List Value → Type 0
  Own vs = (k : ℕ) (v : Value) → slice_get vs k ≡ Some v → IsValueOf g v

  types_same : (vs : List Value) → Own vs → map (λ (v : Value). option_type (type_in c v)) vs ≡ map (λ (v : Value). option_type (value_type g v)) vs
  types_same [] own = refl
  types_same (v ∷ vs) own =
      let mine = own 0 v refl in
      let here : type_in c v ≡ value_type g v = own_type c f g is v mine.0 mine.1 ∙ sym mine.1 in
      let rest = types_same vs (λ k w at. own (suc k) w at) in
      cc

  action_same : (o : DialectOp) (k : Kind) → Own o.operands → typed_action setting (type_in c) o k ≡ typed_action setting (value_type g) o k
  action_same o (ConstantOp value) own = refl
  action_same o (FilledOp fill) own = refl
  action_same o (RowOp op) own = ap (λ (ts : List TypeTree). let a : Action Value = Applies op (option_type o.result) ts (map At o.operands) in a) (types_same o.operands own)

  rows_same : (os : List DialectOp) → ((k : ℕ) (o : DialectOp) → slice_get os k ≡ Some o → Own o.operands) → map (typed_row setting (type_in c)) os ≡ map (typed_row setting (value_type g)) os
  rows_same [] own = refl
  rows_same (o ∷ os) own =
      let here = action_same o o.kind (own 0 o refl) in
      let rest = rows_same os (λ k x at. own (suc k) x at) in
      cc

  blocks_same : (bs : List DialectBlock) → ((j k : ℕ) (b : DialectBlock) (o : DialectOp) → slice_get bs j ≡ Some b → slice_get b.ops k ≡ Some o → Own o.operands) → map (typed_block setting (type_in c) g) bs ≡ map (typed_block setting (value_type g) g) bs
  blocks_same [] own = refl
  blocks_same (b ∷ bs) own =
      let here = rows_same b.ops (λ k o at. own 0 k b o refl at) in
      let rest = blocks_same bs (λ j k d o at within. own (suc j) k d o at within) in
      cc

  pub own_body : HasOwnValues g → typed_body setting (type_in c) g ≡ typed_body setting (value_type g) g
  own_body own =
      let operands : (j k : ℕ) (b : DialectBlock) (o : DialectOp) → slice_get g.blocks j ≡ Some b → slice_get b.ops k ≡ Some o → Own o.operands =
      λ j k b o at within i v here.
      let stands = stands_left v o.operands (flat_map (λ (s : Successor). s.args) o.successors) i here in
      all_at (IsValueOf g) (uses_of o) (own j k b o at within) stands.0 v stands.1 in
      ap (λ (bs : List (Block Value)). let b : Body = record { blocks = length g.blocks; trace = trace Value same_value (start g.blocks) bs } in b) (blocks_same g.blocks operands)
