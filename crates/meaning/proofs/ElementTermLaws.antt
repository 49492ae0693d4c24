-- The terms of lists and splats in their one form, made of the elements that their types ask for.
use Rattle.std.proofs.Common.{◌≡◌, ℕ, zero, suc, Bool, true, false, ◌&&◌, nat_eq, not, refl, ap, sym, ◌∙◌, List, Option, Some, None, if◌then◌else◌, arith}
use Rattle.std.proofs.lemmas.Bool.{eqb-true}
use Rattle.std.proofs.lemmas.Option.{same_Some}
use Rattle.kinds.specs.declared.types.VectorTypeKind.TheVariants as V
use Rattle.kinds.specs.Held.{width_in}
use Rattle.kinds.specs.Structs.{Struct}
use Rattle.kinds.specs.Types.{TypeTree, VoidType, IntType, PointerType, FloatingType, RefusedType, ArrayType, VectorType, StructType, NamedType, FunctionType, same_tree}
use Rattle.kinds.proofs.TypeLaws.{and_left, and_right, tree_told}
use Rattle.llvm_core.specs.Data.{ConstTree, IntConst, FilledConst, BytesConst, ListConst, SplatConst, PlaceholderConst, ConstTrees, NoConsts, ThenConst, const_type, listed, formed}
use Rattle.llvm_core.specs.Elements.{is_placeholder, is_element, are_all, are_elements, splat_const}
use Rattle.llvm_core.specs.Elements as E
use Rattle.meaning.specs.Terms.{Term, Terms, ThenTerm}
use Rattle.meaning.specs.Constants.{list_term, lanes_term, copies}
use Rattle.meaning.specs.Setting.{Setting}
use Rattle.meaning.specs.Llvm.{const_term, const_terms}
use Rattle.meaning.proofs.FormedLaws.{AsksFor, HasByteWidth, HaveByteWidth, count_consts, formed_term, listed_term}

-- ---- elements of 8 bits

byte_type : (t : TypeTree) → nat_eq (width_in t) 8 ≡ true → t ≡ IntType 8
byte_type (IntType w) h = ap IntType (eqb-true w 8 h)
byte_type VoidType h = cc
byte_type (PointerType s) h = cc
byte_type (FloatingType a) h = cc
byte_type (RefusedType a) h = cc
byte_type (ArrayType n t) h = cc
byte_type (VectorType k n t) h = cc
byte_type (StructType l ts) h = cc
byte_type (NamedType n) h = cc
byte_type (FunctionType r ps v) h = cc

byte_width : (t : TypeTree) (c : ConstTree) → t ≡ IntType 8 → is_element t c ≡ true → HasByteWidth c
byte_width t (IntConst w v) is h = let e : IntType w ≡ IntType 8 = tree_told (IntType w) t (and_left (same_tree (IntType w) t) (not (is_placeholder (IntConst w v))) h) ∙ is in cc
byte_width t (FilledConst fill u) is h = tt
byte_width t (BytesConst bytes) is h = tt
byte_width t (ListConst u cs) is h = tt
byte_width t (SplatConst u c) is h = tt
byte_width t (PlaceholderConst n u) is h = tt

all_bytes : (n : ℕ) (t : TypeTree) (cs : ConstTrees) → t ≡ IntType 8 → are_all n t cs ≡ true → HaveByteWidth cs
all_bytes zero t NoConsts is h = tt
all_bytes zero t (ThenConst c cs) is h = cc
all_bytes (suc n) t NoConsts is h = tt
all_bytes (suc n) t (ThenConst c cs) is h = (byte_width t c is (and_left (is_element t c) (are_all n t cs) h), all_bytes n t cs is (and_right (is_element t c) (are_all n t cs) h))

all_counted : (n : ℕ) (t : TypeTree) (cs : ConstTrees) → are_all n t cs ≡ true → count_consts cs ≡ n
all_counted zero t NoConsts h = refl
all_counted zero t (ThenConst c cs) h = cc
all_counted (suc n) t NoConsts h = cc
all_counted (suc n) t (ThenConst c cs) h = let rest = all_counted n t cs (and_right (is_element t c) (are_all n t cs) h) in omega (arith, rest)

-- ---- lists

-- what a type has for elements is what it asks for
pub asks_for : (structs : List Struct) (t : TypeTree) (cs : ConstTrees) → are_elements structs t cs ≡ true → AsksFor t cs
asks_for structs (ArrayType n t) cs h = record {
  made = refl;
  bytes = λ is. let byte = byte_type t is in (ap (ArrayType n) byte ∙ ap (λ (m : ℕ). ArrayType m (IntType 8)) (sym (all_counted n t cs h)), all_bytes n t cs byte h);
}
asks_for structs (VectorType V.Fixed n t) cs h = record { made = refl; bytes = λ is. cc }
asks_for structs (VectorType V.Scalable n t) cs h = cc
asks_for structs (StructType l ts) cs h = record { made = refl; bytes = λ is. cc }
asks_for structs (NamedType name) cs h = record { made = refl; bytes = λ is. cc }
asks_for structs VoidType cs h = cc
asks_for structs (IntType w) cs h = cc
asks_for structs (PointerType s) cs h = cc
asks_for structs (FloatingType a) cs h = cc
asks_for structs (RefusedType a) cs h = cc
asks_for structs (FunctionType r ps v) cs h = cc

-- the term of a list is that of its one form
pub list_formed : (setting : Setting) (structs : List Struct) (t : TypeTree) (cs : ConstTrees) → are_elements structs t cs ≡ true → const_term setting (listed t cs) ≡ list_term t (const_terms setting cs)
list_formed setting structs t cs h = listed_term setting t cs (asks_for structs t cs h)

-- the term of bytes is that of their one form
pub bytes_term_formed : (setting : Setting) (bytes : List ℕ) → const_term setting (formed (BytesConst bytes)) ≡ const_term setting (BytesConst bytes)
bytes_term_formed setting bytes = formed_term setting (BytesConst bytes) tt

-- ---- splats

copies_terms : (setting : Setting) (n : ℕ) (c : ConstTree) → const_terms setting (E.copies n c) ≡ copies n (const_term setting c)
copies_terms setting zero c = refl
copies_terms setting (suc n) c = ap (ThenTerm (const_term setting c)) (copies_terms setting n c)

-- a vector of equal elements has their lanes for its term
pub splat_const_term : (setting : Setting) (t : TypeTree) (c d : ConstTree) → splat_const t c ≡ Some d → const_term setting d ≡ lanes_term t (const_term setting c)
splat_const_term setting (VectorType V.Fixed n t) c d e = by (is_element t c) e
  where
    by : (b : Bool) → (if b then Some (listed (VectorType V.Fixed n t) (E.copies n c)) else None) ≡ Some d → const_term setting d ≡ lanes_term (VectorType V.Fixed n t) (const_term setting c)
    by true e =
        ap (const_term setting) (sym (same_Some (listed (VectorType V.Fixed n t) (E.copies n c)) d e))
        ∙ listed_term setting (VectorType V.Fixed n t) (E.copies n c) (record { made = refl; bytes = λ is. cc })
        ∙ ap (list_term (VectorType V.Fixed n t)) (copies_terms setting n c)
    by false e = cc
splat_const_term setting (VectorType V.Scalable n t) c d e = by (is_element t c) e
  where
    by : (b : Bool) → (if b then Some (formed (SplatConst (VectorType V.Scalable n t) c)) else None) ≡ Some d → const_term setting d ≡ lanes_term (VectorType V.Scalable n t) (const_term setting c)
    by true e =
        ap (const_term setting) (sym (same_Some (formed (SplatConst (VectorType V.Scalable n t) c)) d e))
        ∙ formed_term setting (SplatConst (VectorType V.Scalable n t) c) refl
    by false e = cc
splat_const_term setting VoidType c d e = cc
splat_const_term setting (IntType w) c d e = cc
splat_const_term setting (PointerType s) c d e = cc
splat_const_term setting (FloatingType a) c d e = cc
splat_const_term setting (RefusedType a) c d e = cc
splat_const_term setting (ArrayType n t) c d e = cc
splat_const_term setting (StructType l ts) c d e = cc
splat_const_term setting (NamedType name) c d e = cc
splat_const_term setting (FunctionType r ps v) c d e = cc
