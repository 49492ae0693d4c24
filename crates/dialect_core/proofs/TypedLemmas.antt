-- The numbers of types in a context stay there.
use Rattle.std.proofs.Common.{◌≡◌, ◌<◌, ◌≤◌, ◌⊎◌, ℕ, zero, suc, Bool, true, false, nat_eq, if◌then◌else◌, List, [], ◌∷◌, ◌++◌, Option, Some, None, All, length, slice_get, get_or, ap, sym, refl, ◌∙◌, inl, inr, arith}
use Rattle.std.specs.Prelude.{IfSome}
use Rattle.std.specs.Option.{option_map}
use Rattle.std.proofs.lemmas.Option.{same_Some, none-some}
use Rattle.dialect_types.proofs.TreeLemmas.{push_cases}
use Rattle.support.specs.Changes.{with_change}
use Rattle.dialect_types.specs.declared.types.TypeHandle.{TypeHandle}
use Rattle.dialect_types.specs.declared.types.TypeKind.{TypeKind}
use Rattle.const_attrs.specs.Trees.{attr_data}
use Rattle.const_attrs.proofs.KeptLaws.{types_still}
use Rattle.dialect_core.specs.declared.numbers.OpRef.{OpRef}
use Rattle.dialect_core.specs.declared.numbers.BlockRef.{BlockRef}
use Rattle.dialect_core.specs.declared.ops.Symbol.{Symbol}
use Rattle.dialect_core.specs.declared.ops.OpKind.{OpKind}
use Rattle.dialect_core.specs.declared.ops.OpKind.TheVariants as K
use Rattle.dialect_core.specs.declared.ops.OpData.{OpData}
use Rattle.dialect_core.specs.declared.ops.BlockData.{BlockData}
use Rattle.dialect_core.specs.Lending.{with_types}
use Rattle.dialect_core.specs.ContextData.{ContextData, with_op, with_block, with_argument, with_name}
use Rattle.dialect_core.specs.Data.{HasKindTypesBelow, IsTypedOp, IsTyped}
use Rattle.dialect_core.proofs.FilterLemmas.{change_get}

-- what stands at a place after a change was there, or is the change of what was there
pub changed_cases : {X : Type 0} (g : X → X) (i : ℕ) (xs : List X) (j : ℕ) (y : X) → slice_get (with_change g i xs) j ≡ Some y → (slice_get xs j ≡ Some y) ⊎ ((x : X) × (slice_get xs j ≡ Some x) × (y ≡ g x))
changed_cases {X} g i xs j y at = by (nat_eq j i) (slice_get xs j) refl (sym (change_get g i xs j) ∙ at)
  where
    by : (t : Bool) (x : Option X) → slice_get xs j ≡ x → (if t then option_map g (slice_get xs j) else slice_get xs j) ≡ Some y → (slice_get xs j ≡ Some y) ⊎ ((x : X) × (slice_get xs j ≡ Some x) × (y ≡ g x))
    by false x is at = inl at
    by true None is at = absurd (none-some y (sym (ap (option_map g) is) ∙ at))
    by true (Some x) is at = inr (x, is, sym (same_Some (g x) y (sym (ap (option_map g) is) ∙ at)))

pub op_typed : (c : ContextData) (x : OpData) → IsTyped c → IsTypedOp (length c.types) x → IsTyped (with_op c x)
op_typed c x h new = record {
  ops = λ o y at. elim (push_cases c.ops x y o at) [ inl old ↦ h.ops o y old | inr last ↦ rw last.0 new ];
  blocks = h.blocks;
}

pub name_typed : (c : ContextData) (o : OpRef) (name : List ℕ) → IsTyped c → IsTyped (with_name c o name)
name_typed c o name h = record {
  ops = λ j y at. elim (changed_cases (λ (x : OpData). record x { name = Some name }) o.0 c.ops j y at) [
    | inl old ↦ h.ops j y old
    | inr new ↦ rw new.2 (let was = h.ops j new.0 new.1 in record { kind = was.kind; result = was.result; symbol = was.symbol })
  ];
  blocks = h.blocks;
}

pub block_typed : (c : ContextData) (b : BlockRef) (x : BlockData) → IsTyped c → All (λ (t : TypeHandle). t.0 < length c.types) x.args → IsTyped (with_block c b x)
block_typed c b x h new = record {
  ops = λ j y at. elim (changed_cases (λ (o : OpData). record o { blocks = o.blocks ++ b ∷ [] }) x.holder.0 c.ops j y at) [
    | inl old ↦ h.ops j y old
    | inr is ↦ rw is.2 (let was = h.ops j is.0 is.1 in record { kind = was.kind; result = was.result; symbol = was.symbol })
  ];
  blocks = λ p y at. elim (push_cases c.blocks x y p at) [ inl old ↦ h.blocks p y old | inr last ↦ rw last.0 new ];
}

push_typed : (xs : List TypeHandle) (t : TypeHandle) (n : ℕ) → All (λ (x : TypeHandle). x.0 < n) xs → t.0 < n → (k : ℕ) (d : TypeHandle) → k < length (xs ++ t ∷ []) → (get_or (xs ++ t ∷ []) k d).0 < n
push_typed [] t n h new zero d l = new
push_typed [] t n h new (suc k) d l = absurd (omega arith)
push_typed (x ∷ xs) t n h new zero d l = h 0 d (omega arith)
push_typed (x ∷ xs) t n h new (suc k) d l = push_typed xs t n (λ j e within. h (suc j) e (omega arith)) new k d (omega arith)

pub argument_typed : (c : ContextData) (b : BlockRef) (t : TypeHandle) → IsTyped c → t.0 < length c.types → IsTyped (with_argument c b t)
argument_typed c b t h new = record {
  ops = h.ops;
  blocks = λ p y at. elim (changed_cases (λ (x : BlockData). record x { args = x.args ++ t ∷ [] }) b.0 c.blocks p y at) [
    | inl old ↦ h.blocks p y old
    | inr is ↦ rw is.2 (λ k d l. push_typed is.0.args t (length c.types) (h.blocks p is.0 is.1) new k d l)
  ];
}

-- ---- more types

result_still : (n m : ℕ) → n ≤ m → (t : Option TypeHandle) → IfSome t (λ (t : TypeHandle). t.0 < n) → IfSome t (λ (t : TypeHandle). t.0 < m)
result_still n m more None h = tt
result_still n m more (Some t) h = omega arith

symbol_still : (n m : ℕ) → n ≤ m → (s : Option Symbol) → IfSome s (λ (s : Symbol). s.ty.0 < n) → IfSome s (λ (s : Symbol). s.ty.0 < m)
symbol_still n m more None h = tt
symbol_still n m more (Some s) h = omega arith

kind_still : (n m : ℕ) → n ≤ m → (k : OpKind) → HasKindTypesBelow n k → HasKindTypesBelow m k
kind_still n m more K.Module h = tt
kind_still n m more K.Func h = tt
kind_still n m more (K.Constant value) h = types_still n m more (attr_data value) h
kind_still n m more (K.Filled fill) h = tt
kind_still n m more (K.Row op) h = tt

pub more_types_typed : (c : ContextData) (types : List TypeKind) → IsTyped c → length c.types ≤ length types → IsTyped (with_types c types)
more_types_typed c types h more = record {
  ops = λ o x at. let was = h.ops o x at in record {
    kind = kind_still (length c.types) (length types) more x.kind was.kind;
    result = result_still (length c.types) (length types) more x.result was.result;
    symbol = symbol_still (length c.types) (length types) more x.symbol was.symbol;
  };
  blocks = λ b x at k d l. omega (arith, h.blocks b x at k d l);
}
