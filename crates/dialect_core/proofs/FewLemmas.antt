-- What tests of the lengths of lists find.
use Rattle.std.proofs.Common.{◌≡◌, ◌<◌, ◌+◌, ◌^◌, ℕ, zero, suc, Bool, true, false, List, [], ◌∷◌, Option, Some, None, All, length, slice_get, ap, sym, subst, ◌∙◌, refl}
use Rattle.std.specs.Prelude.{IfSome, IsTrue, ◌↔◌}
use Rattle.std.specs.Option.{option_map, option_and_then}
use Rattle.std.proofs.lemmas.Option.{none-some, same_Some}
use Rattle.support.proofs.ListLaws.{all_from}
use Rattle.kinds.specs.Types.{params_of}
use Rattle.dialect_types.specs.declared.types.TypeHandle.{TypeHandle}
use Rattle.dialect_types.specs.Trees.{type_at, type_trees}
use Rattle.dialect_core.specs.declared.numbers.OpRef.{OpRef}
use Rattle.dialect_core.specs.declared.numbers.BlockRef.{BlockRef}
use Rattle.dialect_core.specs.declared.ops.Symbol.{Symbol}
use Rattle.dialect_core.specs.declared.ops.OpData.{OpData}
use Rattle.dialect_core.specs.declared.ops.BlockData.{BlockData}
use Rattle.dialect_core.specs.Lists.{from_op, list_at}
use Rattle.dialect_core.specs.ContextData.{ContextData, symbol_at}
use Rattle.dialect_core.specs.Data.{IsTyped}
use Rattle.dialect_core.specs.WellFormed.{IsFew, IsFewBlock, IsFewOp}
use Rattle.dialect_core.specs.Checking.{Each, HasTypeWithin}
use Rattle.dialect_core.proofs.FromLemmas.{Going, going_ends, going_fails}
use Rattle.dialect_core.proofs.TestLemmas.{iff_trans}
use Rattle.dialect_core.proofs.LineLemmas.{all_at}

-- ---- each operation of a list

module _ (P : OpRef → Type 0) where
  abbrev pub Alone : OpRef → List OpRef → Type 0
  Alone o rest = P o

  each_at : (xs : List OpRef) → Each Alone xs → (k : ℕ) (x : OpRef) → slice_get xs k ≡ Some x → P x
  each_at [] h k x at = absurd (none-some x at)
  each_at (y ∷ xs) h zero x at = subst P (same_Some y x at) h.0
  each_at (y ∷ xs) h (suc k) x at = each_at xs h.1 k x at

  at_each : (xs : List OpRef) → ((k : ℕ) (x : OpRef) → slice_get xs k ≡ Some x → P x) → Each Alone xs
  at_each [] h = tt
  at_each (y ∷ xs) h = (h 0 y refl, at_each xs (λ k x at. h (suc k) x at))

  -- what holds of each alone holds of all
  pub each_all : (xs : List OpRef) → Each Alone xs ↔ All P xs
  each_all xs = (λ h. all_from P xs (each_at xs h), λ h. at_each xs (λ k x at. all_at P xs h k x at))

-- ---- how many they are

-- what is left of a block's list, and as many before it, few so far
pub record Counted (xs : List OpRef) (next : Option OpRef) (count : ℕ) : Type 0 where
  pub head : next ≡ slice_get (from_op next xs) 0
  pub all : count + length (from_op next xs) ≡ length xs
  pub few : count < 2 ^ 31

-- ---- going through a list

module _ (P : OpRef → Type 0) (xs : List OpRef) where
  pub all_fails : (next : Option OpRef) (o : OpRef) (n : Option OpRef) → Going (Alone P) xs xs next → next ≡ Some o → from_op (Some o) xs ≡ o ∷ from_op n xs → (P o → ⊥) → IsTrue false ↔ All P xs
  all_fails next o n g is rest not_so = iff_trans (going_fails (Alone P) xs xs next o n g is rest not_so) (each_all P xs)

  pub all_ends : (next : Option OpRef) → Going (Alone P) xs xs next → next ≡ None → IsTrue true ↔ All P xs
  all_ends next g is = iff_trans (going_ends (Alone P) xs xs next g is) (each_all P xs)

-- ---- types of functions

-- they are there where all types are
pub types_within : (c : ContextData) (os : List OpRef) → IsTyped c → All (HasTypeWithin c) os
types_within c os typed = all_from (HasTypeWithin c) os (λ k o at. by o (slice_get c.ops o.0) refl)
  where
    by : (o : OpRef) (x : Option OpData) → slice_get c.ops o.0 ≡ x → IfSome (option_and_then (λ (x : OpData). x.symbol) x) (λ (s : Symbol). s.ty.0 < length c.types)
    by o None at = tt
    by o (Some x) at = (typed.ops o.0 x at).symbol

pub type_within : (c : ContextData) (o : OpRef) (ty : TypeHandle) → HasTypeWithin c o → option_map (λ (s : Symbol). s.ty) (symbol_at c.ops o) ≡ Some ty → ty.0 < length c.types
type_within c o ty = by (symbol_at c.ops o)
  where
    by : (x : Option Symbol) → IfSome x (λ (s : Symbol). s.ty.0 < length c.types) → option_map (λ (s : Symbol). s.ty) x ≡ Some ty → ty.0 < length c.types
    by None w e = absurd (none-some ty e)
    by (Some s) w e = let P : TypeHandle → Type 0 = λ t. t.0 < length c.types in subst P (same_Some s.ty ty e) w

-- ---- what a function takes

pub params_is : (c : ContextData) (o : OpRef) (ty : TypeHandle) (t : Bool) → option_map (λ (s : Symbol). s.ty) (symbol_at c.ops o) ≡ Some ty → (IsTrue t ↔ IsFew (params_of (type_at (type_trees c.types) ty))) → IsTrue t ↔ ((s : Symbol) → symbol_at c.ops o ≡ Some s → IsFew (params_of (type_at (type_trees c.types) s.ty)))
params_is c o ty t type h = by (symbol_at c.ops o) type
  where
    P : TypeHandle → Type 0
    P ty = IsFew (params_of (type_at (type_trees c.types) ty))

    by : (x : Option Symbol) → option_map (λ (s : Symbol). s.ty) x ≡ Some ty → IsTrue t ↔ ((s : Symbol) → x ≡ Some s → P s.ty)
    by None e = absurd (none-some ty e)
    by (Some s) e = (λ yes z is. subst P (sym (same_Some s.ty ty e) ∙ ap (λ (s : Symbol). s.ty) (same_Some s z is)) (h.0 yes), λ w. h.1 (subst P (same_Some s.ty ty e) (w s refl)))

-- ---- blocks

-- the block has few arguments and few operations
pub block_is : (c : ContextData) (b : BlockRef) (args : List TypeHandle) (t : Bool) → option_map (λ (x : BlockData). x.args) (slice_get c.blocks b.0) ≡ Some args → IsFew args → IsFew (list_at c.lists b) → (IsTrue t ↔ All (IsFewOp c) (list_at c.lists b)) → IsTrue t ↔ IsFewBlock c b
block_is c b args t are few ops h = (
  λ yes. record { args = λ x at. by x (sym (ap (option_map (λ (x : BlockData). x.args)) at) ∙ are); ops = ops; each = λ k d l. h.0 yes k d l },
  λ w. h.1 w.each,
)
  where
    by : (x : BlockData) → Some x.args ≡ Some args → IsFew x.args
    by x same = subst (λ (xs : List TypeHandle). IsFew xs) (sym (same_Some x.args args same)) few
