-- The function of the examples whose loop sets a constant: what stands for what, and that both functions have the
-- woven shape.
use Rattle.std.proofs.Common.{◌≡◌, ◌∙◌, ℕ, zero, suc, true, false, List, [], ◌∷◌, Option, Some, None, All, map, slice_get, refl, sym, subst}
use Rattle.std.specs.List.{AllByRecursion}
use Rattle.std.specs.Option.{option_map_or}
use Rattle.std.proofs.lemmas.Bool.{false≢true}
use Rattle.std.proofs.lemmas.List.Elements.{All-from_recursion}
use Rattle.std.proofs.lemmas.Option.{same_Some, none-some}
use Rattle.dialect_core.specs.declared.ops.Value.{Value}
use Rattle.dialect_core.specs.declared.ops.Value.TheVariants.{Result, Argument}
use Rattle.meaning.specs.Terms.{Int, Unset, rename}
use Rattle.meaning.specs.Machine.{Holds, Row, Block}
use Rattle.meaning.specs.Pairs.{BothOrNone}
use Rattle.meaning.specs.Llvm as llvm
use Rattle.meaning.specs.Llvm.{Key, ParamKey, ResultKey}
use Rattle.meaning.specs.Dialect as dialect
use Rattle.meaning.specs.Shape.{Plan, IsPlan, among}
use Rattle.meaning.specs.Woven.{KeepsPlan, WovenBlock, WovenShape}
use Rattle.meaning.specs.Examples.{same_places}
use Rattle.meaning.specs.WovenExamples.{late, late_module, late_func, late_dialect}

abbrev arg : ℕ → ℕ → Value
arg b i = Argument (record { 0 = b }) i

abbrev result : ℕ → Value
result n = Result (record { 0 = n })

abbrev value_of : Key → Option Value
value_of (ParamKey zero zero) = Some (arg 1 0)
value_of (ParamKey zero (suc zero)) = Some (arg 1 1)
value_of (ResultKey zero) = Some (result 2)
value_of (ResultKey (suc zero)) = Some (arg 2 0)
value_of (ResultKey (suc (suc zero))) = Some (result 4)
value_of (ResultKey (suc (suc (suc zero)))) = Some (result 5)
value_of (ResultKey (suc (suc (suc (suc zero))))) = Some (arg 3 0)
value_of (ResultKey (suc (suc (suc (suc (suc zero)))))) = Some (result 6)
value_of (ResultKey (suc (suc (suc (suc (suc (suc zero))))))) = Some (result 7)
value_of _ = None

abbrev plan : Plan
plan = record { value = value_of; hoisted = (record { action = Holds (Int 32 1); result = result 3 }) ∷ [] }

-- what holds of each key and its value
each : (P : Key → Value → Type 0) → P (ParamKey 0 0) (arg 1 0) → P (ParamKey 0 1) (arg 1 1) → P (ResultKey 0) (result 2) → P (ResultKey 1) (arg 2 0) → P (ResultKey 2) (result 4) → P (ResultKey 3) (result 5) → P (ResultKey 4) (arg 3 0) → P (ResultKey 5) (result 6) → P (ResultKey 6) (result 7) → (k : Key) (w : Value) → value_of k ≡ Some w → P k w
each P a c p x y q z s r (ParamKey zero zero) w h = subst (P (ParamKey 0 0)) (same_Some (arg 1 0) w h) a
each P a c p x y q z s r (ParamKey zero (suc zero)) w h = subst (P (ParamKey 0 1)) (same_Some (arg 1 1) w h) c
each P a c p x y q z s r (ParamKey zero (suc (suc i))) w h = absurd (none-some w h)
each P a c p x y q z s r (ParamKey (suc f) i) w h = absurd (none-some w h)
each P a c p x y q z s r (ResultKey zero) w h = subst (P (ResultKey 0)) (same_Some (result 2) w h) p
each P a c p x y q z s r (ResultKey (suc zero)) w h = subst (P (ResultKey 1)) (same_Some (arg 2 0) w h) x
each P a c p x y q z s r (ResultKey (suc (suc zero))) w h = subst (P (ResultKey 2)) (same_Some (result 4) w h) y
each P a c p x y q z s r (ResultKey (suc (suc (suc zero)))) w h = subst (P (ResultKey 3)) (same_Some (result 5) w h) q
each P a c p x y q z s r (ResultKey (suc (suc (suc (suc zero))))) w h = subst (P (ResultKey 4)) (same_Some (arg 3 0) w h) z
each P a c p x y q z s r (ResultKey (suc (suc (suc (suc (suc zero)))))) w h = subst (P (ResultKey 5)) (same_Some (result 6) w h) s
each P a c p x y q z s r (ResultKey (suc (suc (suc (suc (suc (suc zero))))))) w h = subst (P (ResultKey 6)) (same_Some (result 7) w h) r
each P a c p x y q z s r (ResultKey (suc (suc (suc (suc (suc (suc (suc n)))))))) w h = absurd (none-some w h)

-- the key that a value stands for
abbrev key_of_argument : ℕ → ℕ → Key
key_of_argument (suc zero) i = ParamKey 0 i
key_of_argument (suc (suc zero)) i = ResultKey 1
key_of_argument _ i = ResultKey 4

abbrev key_of_result : ℕ → Key
key_of_result (suc (suc zero)) = ResultKey 0
key_of_result (suc (suc (suc (suc zero)))) = ResultKey 2
key_of_result (suc (suc (suc (suc (suc zero))))) = ResultKey 3
key_of_result (suc (suc (suc (suc (suc (suc zero)))))) = ResultKey 5
key_of_result _ = ResultKey 6

abbrev key_of : Value → Key
key_of (Argument b i) = key_of_argument b.0 i
key_of (Result r) = key_of_result r.0

key_of_value : (k : Key) (w : Value) → value_of k ≡ Some w → key_of w ≡ k
key_of_value = each (λ k w. key_of w ≡ k) refl refl refl refl refl refl refl refl refl

is_plan : IsPlan plan
is_plan = record {
  closed = (tt, tt, tt);
  one_to_one = λ j k w p q. sym (key_of_value j w p) ∙ key_of_value k w q;
  apart = each (λ k w. among plan.hoisted w ≡ false) refl refl refl refl refl refl refl refl refl;
}

abbrev rows : ℕ → List (Row Value)
rows place = option_map_or (λ (b : Block Value). b.rows) (slice_get (map (dialect.block (dialect.setting_of late_dialect) late_func) late_func.blocks) place) []

abbrev Kept : Row Value → Type 0
Kept r = KeepsPlan plan r.action r.result

kept : (rows : List (Row Value)) → AllByRecursion Kept rows → All Kept rows
kept rows h = All-from_recursion Kept rows h

blocks : (place : ℕ) → BothOrNone (WovenBlock same_places plan (λ b. b)) (slice_get (map (llvm.block (llvm.setting_of late_module) late) late.blocks) place) (slice_get (map (dialect.block (dialect.setting_of late_dialect) late_func) late_func.blocks) place)
blocks zero = record {
  constants = kept (rows 0) (tt, tt);
  pairs = (record { action = (refl, refl, refl, (refl, tt)); result = refl }, tt);
  edges = (record { to = refl; moves = (record { target = refl; source = refl }, tt) }, (record { to = refl; moves = (record { target = refl; source = refl }, tt) }, tt));
}
blocks (suc zero) = record {
  constants = kept (rows 1) ((refl, refl), (tt, (tt, tt)));
  pairs = (
    record { action = (refl, refl, refl, (refl, ((refl, refl), tt))); result = refl },
    (record { action = (refl, refl, refl, (refl, tt)); result = refl }, tt),
  );
  edges = (record { to = refl; moves = (record { target = refl; source = refl }, tt) }, (record { to = refl; moves = (record { target = refl; source = refl }, tt) }, tt));
}
blocks (suc (suc zero)) = record {
  constants = kept (rows 2) (tt, (tt, tt));
  pairs = (
    record { action = (refl, refl, refl, (refl, ((refl, refl), tt))); result = refl },
    (record { action = (refl, refl, refl, (refl, tt)); result = refl }, tt),
  );
  edges = tt;
}
blocks (suc (suc (suc n))) = tt

pub late_shape : WovenShape same_places (llvm.setting_of late_module) late (dialect.setting_of late_dialect) late_func
late_shape = record {
  plan = plan;
  is_plan = is_plan;
  starts = each (λ k w. rename same_places (llvm.start late k) ≡ dialect.start late_func.blocks w) refl refl refl refl refl refl refl refl refl;
  unset = unset;
  same = record { first = refl; blocks = blocks };
}
  where
    unset : (w : Value) → among plan.hoisted w ≡ true → dialect.start late_func.blocks w ≡ Unset
    unset (Result r) m = refl
    unset (Argument b i) m = absurd (false≢true m)
