-- `==` of kinds is equality of values, and what that makes of an interner's clauses.
use Rattle.std.proofs.Common.{◌≡◌, ◌≢◌, ℕ, true, false, Option, Some, None, refl, slice_get, List, ap, subst, arith}
use Rattle.std.specs.Bool.{Decides}
use Rattle.std.specs.Option.{option_eq}
use Rattle.std.specs.Cmp.{unsigned_Decides}
use Rattle.std.proofs.lemmas.Slice.Eq.{bytes_eq-Decides}
use Rattle.std.specs.Cmp.Lexicographic.{pointwise, pointwise_decides}
use Rattle.std.specs.List.{IsDistinct}
use Rattle.support.proofs.InternedLaws.{interned_by, distinct_list}
use Rattle.dialect_types.specs.declared.types.TypeHandle.{TypeHandle}
use Rattle.dialect_types.specs.declared.types.StructFields.{StructFields}
use Rattle.dialect_types.specs.declared.types.TypeKind.{TypeKind}
use Rattle.dialect_types.specs.declared.types.TypeKind.TheVariants.{Struct, Named, Func}
use Rattle.dialect_types.specs.contracts.types.TypeHandlePartialEq.TheImpl as handles
use Rattle.dialect_types.specs.contracts.types.StructFieldsPartialEq.TheImpl as fields
use Rattle.dialect_types.specs.contracts.types.StructFieldsEq.TheImpl.Laws as fields_eq
use Rattle.dialect_types.specs.contracts.types.TypeKindPartialEq.TheImpl as kinds
use Rattle.dialect_types.specs.contracts.types.TypeKindEq.TheImpl.Laws as kind_eq
use Rattle.support.specs.Interned.{Interned, InternedBy, IsDistinctList}

-- numbers are equal where their words are
pub same_handle : (a b : TypeHandle) → a.0 ≡ b.0 → a ≡ b
same_handle a b e = ap (λ (n : ℕ). let t : TypeHandle = record { 0 = n } in t) e

handle_decides : (a b : TypeHandle) → Decides (handles.eq-value.it a b) (a ≡ b)
handle_decides a b = (λ h. same_handle a b ((unsigned_Decides a.0 b.0).0 h), λ e. (unsigned_Decides a.0 b.0).1 (ap (λ (t : TypeHandle). t.0) e))

same_handles : (xs ys : List TypeHandle) → Decides (pointwise handles.eq-value.it xs ys) (xs ≡ ys)
same_handles = pointwise_decides handle_decides

pub same_kind : (a b : TypeKind) → kinds.eq-value.it a b ≡ true → a ≡ b
same_kind (Func r xs v) (Func s ys w) h = grind (arith, same_handles xs ys)
same_kind (Named n None) (Named m None) h = let e = bytes_eq-Decides n m in grind (arith, e)
same_kind (Named n (Some b)) (Named m (Some c)) h = let e = bytes_eq-Decides n m in grind (arith, e, same_handles b.types c.types)
same_kind (Struct xs l) (Struct ys k) h = grind (arith, same_handles xs ys)
same_kind a b h = grind arith

kind_decides : (a b : TypeKind) → Decides (kinds.eq-value.it a b) (a ≡ b)
kind_decides a b = (same_kind a b, λ e. subst (λ (y : TypeKind). kinds.eq-value.it a y ≡ true) e (kind_eq.laws-law.refl a))

pub interned_kind : (old new : List TypeKind) (k : TypeKind) (n : ℕ) → InternedBy kinds.eq-value.it old new k n → Interned old new k n
interned_kind = interned_by kinds.eq-value.it same_kind

pub distinct_kinds : (xs : List TypeKind) → IsDistinct kinds.eq-value.it xs → IsDistinctList xs
distinct_kinds = distinct_list kinds.eq-value.it kind_decides

-- ---- the fields of structs

same_fields : (a b : StructFields) → fields.eq-value.it a b ≡ true → a ≡ b
same_fields a b h = grind (arith, same_handles a.types b.types)

same_body : (a b : Option StructFields) → option_eq fields.eq-value.it a b ≡ true → a ≡ b
same_body None None h = refl
same_body None (Some b) h = cc
same_body (Some a) None h = cc
same_body (Some a) (Some b) h = ap Some (same_fields a b h)

equal_body : (a : Option StructFields) → option_eq fields.eq-value.it a a ≡ true
equal_body None = refl
equal_body (Some a) = fields_eq.laws-law.refl a

-- a struct of a name has the body, or another one
pub this_body : (ks : List TypeKind) (t : ℕ) (k : TypeKind) (n name : List ℕ) (held b body : Option StructFields) → slice_get ks t ≡ Some k → k ≡ Named n held → slice_get ks t ≡ Some (Named name b)
    → option_eq fields.eq-value.it held body ≡ true → slice_get ks t ≡ Some (Named name body)
this_body ks t k n name held b body at is named h = let e = same_body held body h in cc

pub other_body : (ks : List TypeKind) (t : ℕ) (k : TypeKind) (n name : List ℕ) (held body : Option StructFields) → slice_get ks t ≡ Some k → k ≡ Named n held
    → option_eq fields.eq-value.it held body ≡ false → (b : Option StructFields) → slice_get ks t ≡ Some (Named name b) → b ≢ body
other_body ks t k n name held body at is h b named same =
    let e : held ≡ body = cc in
    let f = subst (λ (o : Option StructFields). option_eq fields.eq-value.it held o ≡ true) e (equal_body held) in
    absurd (cc)
