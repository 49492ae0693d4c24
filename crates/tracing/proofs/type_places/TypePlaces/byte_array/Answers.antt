-- What `TypePlaces::byte_array` owes besides what the check finds.
use Rattle.std.proofs.Common.{◌≡◌, ◌<◌, ◌^◌, ℕ, Bool, true, ◌&&◌, not, Some, refl, ap, sym, subst, ◌∙◌, arith}
use Rattle.std.proofs.lemmas.Bool.{lt-ltb}
use Rattle.std.proofs.lemmas.Result.{IfOk-weaker, on_ok_weaker}
use Rattle.kinds.specs.Types.{TypeTree, IntType, ArrayType, shape}
use Rattle.kinds.specs.Fitting.{is_amx, is_array_of, is_field}
use Rattle.llvm_core.specs.Data.{type_trees}
use Rattle.tracing.specs.Types.{IsFitTree}
use Rattle.tracing.proofs.GrowLaws.{place_below, stands_at, table_grown}
use Rattle.tracing.proofs.type_places.TypePlaces.byte_array.Goals as goal

-- so many integers of 8 bits make an array
bytes_fit : (count : ℕ) → count < 2 ^ 64 → is_array_of count (shape (IntType 8)) ≡ true
bytes_fit count lt = ap (λ (b : Bool). b && is_field (shape (IntType 8)) && not (is_amx (shape (IntType 8)))) (lt-ltb count (2 ^ 64) lt)

pub intern-requires-2-clause-over : goal.intern-requires-2-clause-over
intern-requires-2-clause-over c = place_below _ _ _ c.in_ok-byte.ensures.stands

pub intern-requires-2-clause-fit : goal.intern-requires-2-clause-fit
intern-requires-2-clause-fit c =
    subst (λ (t : TypeTree). IsFitTree (ArrayType c.args.count t)) (sym (stands_at (type_trees c.intern.new.self) c.in_ok-byte.byte _ c.in_ok-byte.ensures.stands)) (bytes_fit c.args.count (omega (arith, c.ranges.count)))

pub returns-clause-stands : goal.returns-clause-stands
returns-clause-stands c =
    IfOk-weaker c.intern-2.result _ _ (λ t stands. stands ∙ ap Some (ap (ArrayType c.args.count) (stands_at (type_trees c.intern.new.self) c.in_ok-byte.byte _ c.in_ok-byte.ensures.stands))) c.intern-2.ensures.stands

pub returns-clause-grown : goal.returns-clause-grown
returns-clause-grown c = on_ok_weaker c.intern-2.result (λ kept source before. table_grown source _ _ refl (λ k t at. kept k t (c.in_ok-byte.ensures.kept k t at)) before) c.intern-2.ensures.kept
