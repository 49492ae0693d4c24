-- The sums of the examples with the constant between them: the woven shape, and that the first block sets the constant
-- before it is read.
use Rattle.std.proofs.Common.{◌≡◌, ℕ, zero, suc, true, false, nat_eq, List, map, flat_map, slice_get, refl, ⊎_elim}
use Rattle.std.proofs.lemmas.Bool.{false≢true, or_cases, or_left, or_right}
use Rattle.std.proofs.lemmas.List.Elements.{All-from_recursion}
use Rattle.dialect_core.specs.declared.ops.Value.{Value}
use Rattle.dialect_core.specs.declared.ops.Value.TheVariants.{Result, Argument}
use Rattle.meaning.specs.Terms.{Unset, rename}
use Rattle.meaning.specs.Machine.{Row, Block}
use Rattle.meaning.specs.Pairs.{BothOrNone}
use Rattle.meaning.specs.Llvm as llvm
use Rattle.meaning.specs.Dialect as dialect
use Rattle.meaning.specs.Shape.{among}
use Rattle.meaning.specs.Woven.{KeepsPlan, SetsConstantsFirst, WovenBlock, WovenShape}
use Rattle.meaning.specs.Examples.{same_places, sums, sums_module}
use Rattle.meaning.specs.WovenExamples.{mixed_dialect, mixed_func}
use Rattle.meaning.proofs.ShapeExample.{plan, is_plan, each}

abbrev target : List (Block Value)
target = map (dialect.block (dialect.setting_of mixed_dialect) mixed_func) mixed_func.blocks

abbrev rows : List (Row Value)
rows = flat_map (λ (b : Block Value). b.rows) target

blocks : (place : ℕ) → BothOrNone (WovenBlock same_places plan (λ b. b)) (slice_get (map (llvm.block (llvm.setting_of sums_module) sums) sums.blocks) place) (slice_get target place)
blocks zero = record {
  constants = All-from_recursion (λ (r : Row Value). KeepsPlan plan r.action r.result) rows (tt, ((refl, refl), (tt, (tt, tt))));
  pairs = (
    record { action = (refl, refl, refl, (refl, (refl, tt))); result = refl },
    (
      record { action = (refl, refl, refl, (refl, ((refl, refl), tt))); result = refl },
      (record { action = (refl, refl, refl, (refl, tt)); result = refl }, tt),
    ),
  );
  edges = tt;
}
blocks (suc n) = tt

unset : (w : Value) → among plan.hoisted w ≡ true → dialect.start mixed_func.blocks w ≡ Unset
unset (Result r) m = refl
unset (Argument b i) m = absurd (false≢true m)

abbrev mixed_shape : WovenShape same_places (llvm.setting_of sums_module) sums (dialect.setting_of mixed_dialect) mixed_func
mixed_shape = record {
  plan = plan;
  is_plan = is_plan;
  starts = each (λ k w. rename same_places (llvm.start sums k) ≡ dialect.start mixed_func.blocks w) refl refl refl refl refl;
  unset = unset;
  same = record { first = refl; blocks = blocks };
}

sets_first : SetsConstantsFirst plan target
sets_first = record {
  entry = _;
  first = refl;
  sets = sets;
  reads = ((λ m. absurd (false≢true m), (λ m. absurd (false≢true m), tt)), (tt, ((λ m. absurd (false≢true m), (λ m. refl, tt)), ((λ m. absurd (false≢true m), tt), tt))));
}
  where
    sets : (w : Value) → among plan.hoisted w ≡ true → among rows w ≡ true
    sets (Result r) m = or_right (nat_eq 3 r.0) _ (or_left (nat_eq 2 r.0) _ (⊎_elim (λ x. x) (λ x. absurd (false≢true x)) (or_cases (nat_eq 2 r.0) false m)))
    sets (Argument b i) m = absurd (false≢true m)

pub mixed : (h : WovenShape same_places (llvm.setting_of sums_module) sums (dialect.setting_of mixed_dialect) mixed_func) × SetsConstantsFirst h.plan target
mixed = (mixed_shape, sets_first)
