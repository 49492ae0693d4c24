-- What tests of operations find.
use Rattle.std.proofs.Common.{◌≡◌, ◌<◌, ℕ, Bool, true, false, Result, Ok, Err, List, Option, Some, None, length, slice_get, ap, sym, subst, ◌∙◌, refl, arith}
use Rattle.std.specs.Prelude.{IsTrue, ◌↔◌, is_ok}
use Rattle.std.specs.Option.{option_map, option_map_or, option_and_then}
use Rattle.std.proofs.lemmas.Option.{none-some, same_Some}
use Rattle.kinds.specs.Types.{result_of, same_tree}
use Rattle.kinds.specs.Held.{IsFirstClass}
use Rattle.kinds.proofs.TypeLaws.{tree_self, tree_told}
use Rattle.dialect_types.specs.declared.types.TypeHandle.{TypeHandle}
use Rattle.dialect_types.specs.declared.types.TypeKind.{TypeKind}
use Rattle.dialect_types.specs.declared.types.TypeKind.TheVariants as T
use Rattle.dialect_types.specs.Trees.{TypeTree, VoidType, type_at, type_tree, type_trees, HasPartsBelow}
use Rattle.const_attrs.specs.declared.attr_err.AttrErr.{AttrErr}
use Rattle.const_attrs.specs.Trees.{AttrTree, type_of}
use Rattle.const_attrs.specs.Verified.{fault_of, has_type}
use Rattle.dialect_core.specs.declared.numbers.OpRef.{OpRef}
use Rattle.dialect_core.specs.declared.ops.Value.{Value}
use Rattle.dialect_core.specs.declared.ops.Successor.{Successor}
use Rattle.dialect_core.specs.declared.ops.Symbol.{Symbol}
use Rattle.dialect_core.specs.declared.ops.OpKind.{OpKind}
use Rattle.dialect_core.specs.declared.ops.OpData.{OpData}
use Rattle.dialect_core.specs.ContextData.{ContextData, symbol_at}
use Rattle.dialect_core.specs.Data.{Kind, DialectOp, Func, kind_of, op_of, op_at, IsTyped, HasKindTypesBelow, type_in}
use Rattle.dialect_core.specs.WellFormed.{IsOfKind, IsWellFormedOp}
use Rattle.dialect_core.specs.Checking.{IsConstantOf, IsKindAt, IsOpAt, func_at, tree_at}
use Rattle.dialect_core.proofs.TestLemmas.{no_true}

-- ---- kinds

pub kind_by : (c : ContextData) (g : Func) (kind : OpKind) (operands : List Value) (own : Option TypeHandle) (edges : List Successor) (k : Kind) (t : Bool) → kind_of (type_trees c.types) kind ≡ Some k → (IsTrue t ↔ IsOfKind (type_in c) g operands (option_map (tree_at c) own) edges k) → IsTrue t ↔ IsKindAt c g kind operands own edges
kind_by c g kind operands own edges k t is h =
    let P : Kind → Type 0 = λ k. IsOfKind (type_in c) g operands (option_map (tree_at c) own) edges k in
    (λ yes. (k, is, h.0 yes), λ w. h.1 (subst P (same_Some w.0 k (sym w.1 ∙ is)) w.2))

pub kind_typed : (c : ContextData) (o : OpRef) (kind : OpKind) → IsTyped c → option_map (λ (x : OpData). x.kind) (slice_get c.ops o.0) ≡ Some kind → HasKindTypesBelow (length c.types) kind
kind_typed c o kind typed h = by (slice_get c.ops o.0) refl h
  where
    by : (x : Option OpData) → slice_get c.ops o.0 ≡ x → option_map (λ (x : OpData). x.kind) x ≡ Some kind → HasKindTypesBelow (length c.types) kind
    by None at e = absurd (none-some kind e)
    by (Some x) at e = let P : OpKind → Type 0 = HasKindTypesBelow (length c.types) in subst P (same_Some x.kind kind e) (typed.ops o.0 x at).kind

-- an operation of the context is as its kind is
module _ (c : ContextData) (g : Func) (o : OpRef) where
  at_op : (x : OpData) → slice_get c.ops o.0 ≡ Some x → (op_at (type_trees c.types) c.ops o ≡ option_map (λ (k : Kind). record { number = o.0; name = x.name; kind = k; operands = x.operands; successors = x.successors; result = option_map (tree_at c) x.result }) (kind_of (type_trees c.types) x.kind))
  at_op x at = ap (option_and_then (op_of (type_trees c.types) o)) at

  to_op : (x : OpData) → slice_get c.ops o.0 ≡ Some x → IsKindAt c g x.kind x.operands x.result x.successors → IsOpAt c g o
  to_op x at w = (
    record { number = o.0; name = x.name; kind = w.0; operands = x.operands; successors = x.successors; result = option_map (tree_at c) x.result },
    at_op x at ∙ ap (option_map (λ (k : Kind). record { number = o.0; name = x.name; kind = k; operands = x.operands; successors = x.successors; result = option_map (tree_at c) x.result })) w.1,
    w.2,
  )

  from_op : (x : OpData) → slice_get c.ops o.0 ≡ Some x → IsOpAt c g o → IsKindAt c g x.kind x.operands x.result x.successors
  from_op x at w = by (kind_of (type_trees c.types) x.kind) refl (sym (at_op x at) ∙ w.1)
    where
      by : (k : Option Kind) → kind_of (type_trees c.types) x.kind ≡ k → option_map (λ (k : Kind). record { number = o.0; name = x.name; kind = k; operands = x.operands; successors = x.successors; result = option_map (tree_at c) x.result }) k ≡ Some w.0 → IsKindAt c g x.kind x.operands x.result x.successors
      by None is e = absurd (none-some w.0 e)
      by (Some k) is e = let P : DialectOp → Type 0 = IsWellFormedOp (type_in c) g in (k, is, subst P (sym (same_Some _ w.0 e)) w.2)

  pub op_is : (kind : OpKind) (operands : List Value) (own : Option TypeHandle) (edges : List Successor) (t : Bool)
      → option_map (λ (x : OpData). x.kind) (slice_get c.ops o.0) ≡ Some kind → option_map (λ (x : OpData). x.operands) (slice_get c.ops o.0) ≡ Some operands → option_map (λ (x : OpData). x.result) (slice_get c.ops o.0) ≡ Some own → option_map (λ (x : OpData). x.successors) (slice_get c.ops o.0) ≡ Some edges
      → (IsTrue t ↔ IsKindAt c g kind operands own edges) → IsTrue t ↔ IsOpAt c g o
  op_is kind operands own edges t k p r s h = by (slice_get c.ops o.0) refl k p r s
    where
      by : (x : Option OpData) → slice_get c.ops o.0 ≡ x → option_map (λ (x : OpData). x.kind) x ≡ Some kind → option_map (λ (x : OpData). x.operands) x ≡ Some operands → option_map (λ (x : OpData). x.result) x ≡ Some own → option_map (λ (x : OpData). x.successors) x ≡ Some edges → IsTrue t ↔ IsOpAt c g o
      by None at k p r s = absurd (none-some kind k)
      by (Some x) at k p r s =
          let K : OpKind → Type 0 = λ q. IsTrue t ↔ IsKindAt c g q operands own edges in
          let P : List Value → Type 0 = λ q. IsTrue t ↔ IsKindAt c g x.kind q own edges in
          let R : Option TypeHandle → Type 0 = λ q. IsTrue t ↔ IsKindAt c g x.kind x.operands q edges in
          let S : List Successor → Type 0 = λ q. IsTrue t ↔ IsKindAt c g x.kind x.operands x.result q in
          let m : IsTrue t ↔ IsKindAt c g x.kind x.operands x.result x.successors = subst S (sym (same_Some x.successors edges s)) (subst R (sym (same_Some x.result own r)) (subst P (sym (same_Some x.operands operands p)) (subst K (sym (same_Some x.kind kind k)) h))) in
          (λ yes. to_op x at (m.0 yes), λ w. m.1 (from_op x at w))

-- ---- constants

-- one of the type of its operation
pub constant_typed : (ts : List TypeTree) (a : AttrTree) (own : Option TypeHandle) (ty : TypeHandle) (t : Bool) → own ≡ Some ty → true ≡ has_type a (type_at ts ty) → (IsTrue t ↔ IsFirstClass (type_at ts ty)) → IsTrue t ↔ IsConstantOf (option_map (type_at ts) own) a
constant_typed ts a own ty t is has first =
    let same : type_of a ≡ type_at ts ty = tree_told (type_of a) (type_at ts ty) (sym has) in
    (λ yes. (subst IsFirstClass (sym same) (first.0 yes), ap (option_map (type_at ts)) is ∙ ap Some (sym same)), λ w. first.1 (subst IsFirstClass same w.0))

-- and one of another type
pub constant_other : (ts : List TypeTree) (a : AttrTree) (own : Option TypeHandle) (ty : TypeHandle) (t : Bool) → own ≡ Some ty → t ≡ has_type a (type_at ts ty) → t ≡ false → IsTrue t ↔ IsConstantOf (option_map (type_at ts) own) a
constant_other ts a own ty t is has differs = (
  λ yes. no_true (sym differs ∙ yes),
  λ w.
      let same : type_at ts ty ≡ type_of a = same_Some (type_at ts ty) (type_of a) (sym (ap (option_map (type_at ts)) is) ∙ w.1) in
      no_true (sym differs ∙ has ∙ ap (same_tree (type_of a)) same ∙ tree_self (type_of a)),
)

-- a constant without a fault keeps the rules
pub without_fault : (r : Result (Unit {0}) AttrErr) (b : Option AttrErr) (t : Bool) → t ≡ is_ok r → fault_of r ≡ b → IsTrue t ↔ ((true ≡ true) × (b ≡ None))
without_fault (Ok u) b t is fault = (λ yes. (refl, sym fault), λ w. is)
without_fault (Err e) b t is fault = (λ yes. no_true (sym is ∙ yes), λ w. absurd (none-some e (sym (fault ∙ w.1))))

-- ---- what a function returns

pub returned_below : (n m : ℕ) (k : TypeKind) (r : TypeHandle) (ps : List TypeHandle) (v : Bool) → k ≡ T.Func r ps v → HasPartsBelow n k → n < m → r.0 < m
returned_below n m k r ps v is h more = let P : TypeKind → Type 0 = HasPartsBelow n in let parts : HasPartsBelow n (T.Func r ps v) = subst P is h in omega (arith, parts.0)

type_is : (c : ContextData) (f : OpRef) (t : TypeHandle) → option_map (λ (s : Symbol). s.ty) (symbol_at c.ops f) ≡ Some t → (func_at c f).type ≡ tree_at c t
unfolding func_at
type_is c f t h = by (symbol_at c.ops f) h
  where
    by : (s : Option Symbol) → option_map (λ (s : Symbol). s.ty) s ≡ Some t → option_map_or (λ (s : Symbol). tree_at c s.ty) s VoidType ≡ tree_at c t
    by None e = absurd (none-some t e)
    by (Some s) e = ap (tree_at c) (same_Some s.ty t e)

pub func_type : (c : ContextData) (f : OpRef) (t : TypeHandle) → option_map (λ (s : Symbol). s.ty) (symbol_at c.ops f) ≡ Some t → (func_at c f).type ≡ tree_at c t
func_type = type_is

pub func_returns : (c : ContextData) (f : OpRef) (t : TypeHandle) (k : TypeKind) (r : TypeHandle) (ps : List TypeHandle) (v : Bool) → option_map (λ (s : Symbol). s.ty) (symbol_at c.ops f) ≡ Some t → k ≡ T.Func r ps v → tree_at c t ≡ type_tree (type_trees c.types) k
    → tree_at c r ≡ result_of (func_at c f).type
func_returns c f t k r ps v symbol is tree = sym (ap result_of (type_is c f t symbol ∙ tree ∙ ap (type_tree (type_trees c.types)) is))

-- a type that is no function type returns nothing
pub func_void : (c : ContextData) (f : OpRef) (t : TypeHandle) (k : TypeKind) → option_map (λ (s : Symbol). s.ty) (symbol_at c.ops f) ≡ Some t → ((r : TypeHandle) (ps : List TypeHandle) (v : Bool) → k ≡ T.Func r ps v → ⊥) → tree_at c t ≡ type_tree (type_trees c.types) k
    → VoidType ≡ result_of (func_at c f).type
func_void c f t k symbol other tree = sym (ap result_of (type_is c f t symbol ∙ tree) ∙ by k other)
  where
    by : (k : TypeKind) → ((r : TypeHandle) (ps : List TypeHandle) (v : Bool) → k ≡ T.Func r ps v → ⊥) → result_of (type_tree (type_trees c.types) k) ≡ VoidType
    by (T.Func r ps v) other = absurd (other r ps v refl)
    by k other = refl
