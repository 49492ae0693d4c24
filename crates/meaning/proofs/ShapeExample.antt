-- The sums of the examples: what stands for what, and that both functions have the shape.
use Rattle.std.proofs.Common.{◌≡◌, ◌∙◌, ℕ, zero, suc, ◌-◌, false, List, Option, Some, None, map, flat_map, take, drop, slice_get, refl, sym, subst}
use Rattle.std.proofs.lemmas.Option.{same_Some, none-some}
use Rattle.dialect_core.specs.declared.ops.Value.{Value}
use Rattle.dialect_core.specs.declared.ops.Value.TheVariants.{Result, Argument}
use Rattle.meaning.specs.Terms.{rename}
use Rattle.meaning.specs.Machine.{Row, Block}
use Rattle.meaning.specs.Pairs.{BothOrNone}
use Rattle.meaning.specs.Llvm as llvm
use Rattle.meaning.specs.Llvm.{Key, ParamKey, ResultKey}
use Rattle.meaning.specs.Dialect as dialect
use Rattle.meaning.specs.Shape.{Plan, IsPlan, among, SameBlock, SameShape}
use Rattle.meaning.specs.Examples.{same_places, sums, sums_module, sums_dialect, sums_func}

abbrev pub first_arg : Value
first_arg = Argument (record { 0 = 1 }) 0

abbrev pub second_arg : Value
second_arg = Argument (record { 0 = 1 }) 1

abbrev pub result : ℕ → Value
result n = Result (record { 0 = n })

abbrev pub value_of : Key → Option Value
value_of (ParamKey zero zero) = Some first_arg
value_of (ParamKey zero (suc zero)) = Some second_arg
value_of (ResultKey zero) = Some (result 3)
value_of (ResultKey (suc zero)) = Some (result 4)
value_of (ResultKey (suc (suc zero))) = Some (result 5)
value_of _ = None

-- the rows of the dialect's one block, of which the first is the constant
abbrev pub rows : List (Row Value)
rows = flat_map (λ (b : Block Value). b.rows) (map (dialect.block (dialect.setting_of sums_dialect) sums_func) sums_func.blocks)

abbrev pub plan : Plan
plan = record { value = value_of; hoisted = take 1 rows }

-- what holds of each key and its value
pub each : (P : Key → Value → Type 0) → P (ParamKey 0 0) first_arg → P (ParamKey 0 1) second_arg → P (ResultKey 0) (result 3) → P (ResultKey 1) (result 4) → P (ResultKey 2) (result 5) → (k : Key) (w : Value) → value_of k ≡ Some w → P k w
each P a b c d e (ParamKey zero zero) w h = subst (P (ParamKey 0 0)) (same_Some first_arg w h) a
each P a b c d e (ParamKey zero (suc zero)) w h = subst (P (ParamKey 0 1)) (same_Some second_arg w h) b
each P a b c d e (ParamKey zero (suc (suc i))) w h = absurd (none-some w h)
each P a b c d e (ParamKey (suc f) i) w h = absurd (none-some w h)
each P a b c d e (ResultKey zero) w h = subst (P (ResultKey 0)) (same_Some (result 3) w h) c
each P a b c d e (ResultKey (suc zero)) w h = subst (P (ResultKey 1)) (same_Some (result 4) w h) d
each P a b c d e (ResultKey (suc (suc zero))) w h = subst (P (ResultKey 2)) (same_Some (result 5) w h) e
each P a b c d e (ResultKey (suc (suc (suc n)))) w h = absurd (none-some w h)

-- the key that a value stands for
abbrev key_of : Value → Key
key_of (Argument b i) = ParamKey 0 i
key_of (Result r) = ResultKey (r.0 - 3)

pub key_of_value : (k : Key) (w : Value) → value_of k ≡ Some w → key_of w ≡ k
key_of_value = each (λ k w. key_of w ≡ k) refl refl refl refl refl

pub is_plan : IsPlan plan
is_plan = record {
  closed = (tt, tt, tt);
  one_to_one = λ j k w p q. sym (key_of_value j w p) ∙ key_of_value k w q;
  apart = each (λ k w. among plan.hoisted w ≡ false) refl refl refl refl refl;
}

blocks : (place : ℕ) → BothOrNone (SameBlock same_places plan (λ b. b) place) (slice_get (map (llvm.block (llvm.setting_of sums_module) sums) sums.blocks) place) (slice_get (map (dialect.block (dialect.setting_of sums_dialect) sums_func) sums_func.blocks) place)
blocks zero = record {
  front = take 1 rows;
  rest = drop 1 rows;
  rows = refl;
  leads = refl;
  pairs = (
    record { action = (refl, refl, refl, (refl, (refl, tt))); result = refl },
    (
      record { action = (refl, refl, refl, (refl, ((refl, refl), tt))); result = refl },
      (record { action = (refl, refl, refl, (refl, tt)); result = refl }, tt),
    ),
  );
  edges = tt;
}
blocks (suc n) = tt

pub sums_shape : SameShape same_places (llvm.setting_of sums_module) sums (dialect.setting_of sums_dialect) sums_func
sums_shape = record {
  plan = plan;
  is_plan = is_plan;
  starts = each (λ k w. rename same_places (llvm.start sums k) ≡ dialect.start sums_func.blocks w) refl refl refl refl refl;
  same = record { entry = (_, refl); first = refl; blocks = blocks };
}
