-- What the narrow operations of a list tell of their data.
use Rattle.std.proofs.Common.{◌≡◌, ℕ, suc, List, [], ◌∷◌, Option, Some, None, All, slice_get, ap, sym, subst, ◌∙◌, refl}
use Rattle.std.specs.Prelude.{IfSome, ◌↔◌}
use Rattle.std.specs.List.{filter_map, cons_option}
use Rattle.std.specs.Option.{option_map, option_and_then}
use Rattle.std.proofs.lemmas.List.Elements.{All-head, All-tail, All-nil, All-cons}
use Rattle.kinds.specs.Held.{IsHeld}
use Rattle.dialect_types.specs.declared.types.TypeHandle.{TypeHandle}
use Rattle.dialect_types.specs.Trees.{TypeTree, type_trees}
use Rattle.dialect_core.specs.declared.numbers.OpRef.{OpRef}
use Rattle.dialect_core.specs.declared.ops.OpKind.{OpKind}
use Rattle.dialect_core.specs.declared.ops.OpData.{OpData}
use Rattle.dialect_core.specs.ContextData.{ContextData}
use Rattle.dialect_core.specs.Data.{Kind, DialectOp, kind_of, op_at}
use Rattle.dialect_core.specs.Form.{IsShortKind}
use Rattle.dialect_core.specs.WellFormed.{IsPlainAt, IsNarrowOp}
use Rattle.dialect_core.specs.Checking.{tree_at}
use Rattle.dialect_core.proofs.LineLemmas.{plain_op}
use Rattle.to_llvm_ir.specs.Narrow.{IsShortOp, IsNarrowAt}
use Rattle.to_llvm_ir.proofs.OpLaws.{OpParts, op_parts}

-- ---- an operation

-- its result and its kind, where it has both
own_narrow : {X : Type 0} (f : X → TypeTree) (r : Option X) (k : Option Kind) (d : Kind) → k ≡ Some d
    → IfSome r (λ (t : X). IsHeld (f t) × IfSome k (λ (e : Kind). IsShortKind e (f t))) ↔ IfSome (option_map f r) IsHeld × IfSome (option_map f r) (IsShortKind d)
own_narrow f None k d is = (λ h. (tt, tt), λ h. tt)
own_narrow f (Some t) k d is =
    let P : Option Kind → Type 0 = λ o. IfSome o (λ (e : Kind). IsShortKind e (f t)) in
    (λ h. (h.0, subst P is h.1), λ h. (h.0, subst P (sym is) h.1))

narrow_op : (c : ContextData) (o : OpRef) (d : DialectOp) → OpParts (type_trees c.types) c.ops o d → IsNarrowAt c o ↔ IsNarrowOp d
narrow_op c o d p =
    let N : Option OpData → Type 0 = λ y. IfSome (option_and_then (λ (x : OpData). x.result) y) (λ (t : TypeHandle). IsHeld (tree_at c t) × IfSome (option_map (λ (x : OpData). x.kind) y) (λ (k : OpKind). IsShortOp c k (tree_at c t))) in
    let R : Option TypeTree → Type 0 = λ r. IfSome r IsHeld × IfSome r (IsShortKind d.kind) in
    let w = own_narrow (tree_at c) p.kept.result (kind_of (type_trees c.types) p.kept.kind) d.kind p.kind in
    (λ h. subst R (sym p.result) (w.0 (subst N p.there h)), λ h. subst N (sym p.there) (w.1 (subst R p.result h)))

-- ---- the operations of a block

module _ (c : ContextData) where
  abbrev op : OpRef → Option DialectOp
  op o = op_at (type_trees c.types) c.ops o

  abbrev pub ArePlain : List OpRef → Type 0
  ArePlain xs = (k : ℕ) (o : OpRef) → slice_get xs k ≡ Some o → IsPlainAt c o

  -- an operation with its data
  record Made (x : OpRef) (xs : List OpRef) : Type 0 where
    becomes : DialectOp
    is : op x ≡ Some becomes
    list : filter_map op (x ∷ xs) ≡ becomes ∷ filter_map op xs
    parts : OpParts (type_trees c.types) c.ops x becomes

  made : (x : OpRef) (xs : List OpRef) → ArePlain (x ∷ xs) → Made x xs
  made x xs plain =
      let p = plain_op c x (plain 0 x refl) in
      record { becomes = p.0; is = p.1; list = ap (λ (o : Option DialectOp). cons_option o (filter_map op xs)) p.1; parts = op_parts (type_trees c.types) c.ops x p.0 p.1 }

  pub ops_narrow : (xs : List OpRef) → ArePlain xs → All (IsNarrowAt c) xs → All IsNarrowOp (filter_map op xs)
  ops_narrow [] plain h = All-nil IsNarrowOp
  ops_narrow (x ∷ xs) plain h =
      let m = made x xs plain in
      let P : List DialectOp → Type 0 = All IsNarrowOp in
      subst P (sym m.list) (All-cons IsNarrowOp m.becomes (filter_map op xs) ((narrow_op c x m.becomes m.parts).0 (All-head (IsNarrowAt c) x xs h)) (ops_narrow xs (λ k o at. plain (suc k) o at) (All-tail (IsNarrowAt c) x xs h)))

  pub narrow_ops : (xs : List OpRef) → ArePlain xs → All IsNarrowOp (filter_map op xs) → All (IsNarrowAt c) xs
  narrow_ops [] plain narrow = All-nil (IsNarrowAt c)
  narrow_ops (x ∷ xs) plain narrow =
      let m = made x xs plain in
      let P : List DialectOp → Type 0 = All IsNarrowOp in
      let all : P (m.becomes ∷ filter_map op xs) = subst P m.list narrow in
      All-cons (IsNarrowAt c) x xs ((narrow_op c x m.becomes m.parts).1 (All-head IsNarrowOp m.becomes (filter_map op xs) all)) (narrow_ops xs (λ k o at. plain (suc k) o at) (All-tail IsNarrowOp m.becomes (filter_map op xs) all))
