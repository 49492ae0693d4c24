-- What is printed of a constant is the text of its tree.
use Rattle.std.proofs.Common.{◌≡◌, ◌<◌, ℕ, List, [], ◌∷◌, ◌++◌, codes, length, map, slice_get, Option, Some, None, refl, ap, sym, ◌∙◌}
use Rattle.std.specs.Prelude.{OnOk, Result}
use Rattle.std.specs.declared.alloc.AllocError.{AllocError}
use Rattle.std.specs.List.{flat_map}
use Rattle.std.specs.Option.{option_map, option_map_or}
use Rattle.std.proofs.lemmas.Option.{slice_get_within}
use Rattle.support.proofs.ListLaws.{appended_twice}
use Rattle.kinds.specs.declared.fill.Fill.{Fill}
use Rattle.kinds.specs.declared.types.StructLayout.{StructLayout}
use Rattle.kinds.specs.Held.{width_in}
use Rattle.llvm_core.specs.declared.numbers.LLVMType.{LLVMType}
use Rattle.llvm_core.specs.declared.numbers.LLVMConst.{LLVMConst}
use Rattle.llvm_core.specs.declared.consts.LLVMConstKind.TheVariants as C
use Rattle.llvm_core.specs.Module.{Module}
use Rattle.llvm_core.specs.Sound.{IsModule}
use Rattle.llvm_core.specs.Consts.{IsConstIn, IsMadeBelow}
use Rattle.llvm_core.specs.Parts.{const_type as kind_type}
use Rattle.llvm_core.specs.Data.{TypeTree, ConstTree, IntConst, FilledConst, BytesConst, ListConst, SplatConst, PlaceholderConst, StructBody, Struct, const_at, const_type, consts_at, structs_of, trees_of, type_at}
use Rattle.llvm_core.proofs.DataLemmas.{int_const_of, filled_const_of, placeholder_const_of, const_tree_of}
use Rattle.ll_lines.specs.declared.lines.Brackets.TheVariants as B
use Rattle.ll_said.specs.Said.{said_const, said_consts, chars_text}
use Rattle.ll_print.specs.Printing.{type_text, int_text, filled_text, said_type, next_elements_text, const_text}
use Rattle.ll_print.specs.Parts.{element_text, consts_text, list_text, splat_text}
use Rattle.ll_print.proofs.StrungLaws.{strung, behind_comma}
use Rattle.ll_print.proofs.TextLaws.{ok_two, const_type-at}

-- ---- types, brackets and elements

-- the type that stands before a constant is its own
written_type : (ss : List Struct) (c : ConstTree) → said_type (said_const ss c) ≡ const_type c
written_type ss (IntConst width value) = refl
written_type ss (FilledConst fill type) = refl
written_type ss (BytesConst bytes) = refl
written_type ss (ListConst type cs) = refl
written_type ss (SplatConst type c) = refl
written_type ss (PlaceholderConst number type) = refl

-- how the fields of a struct lie tells the brackets around them
pub brackets_told : (o : Option StructBody) (layout : Option StructLayout) → option_map (λ (b : StructBody). b.layout) o ≡ layout
    → option_map_or (λ (b : StructBody). B.Struct b.layout) o B.Array ≡ option_map_or (λ (l : StructLayout). B.Struct l) layout B.Array
brackets_told None layout e = ap (λ (l : Option StructLayout). option_map_or (λ (l : StructLayout). B.Struct l) l B.Array) e
brackets_told (Some b) layout e = ap (λ (l : Option StructLayout). option_map_or (λ (l : StructLayout). B.Struct l) l B.Array) e

-- the type of a list is there
pub list_typed : (m : Module) (t : LLVMType) (elements : List LLVMConst) → IsConstIn m (C.List t elements) → t.0 < length m.types
list_typed m t elements h = slice_get_within m.types t.0 h.0.kind h.0.typed

next_strung : (ss : List Struct) (cs : List ConstTree) (xs : List LLVMConst) → flat_map (behind_comma (element_text ss)) (map (const_at cs) xs) ≡ next_elements_text (said_consts ss (consts_at cs xs))
next_strung ss cs [] = refl
next_strung ss cs (x ∷ xs) = rw (next_strung ss cs xs, written_type ss (const_at cs x)) refl

-- elements, one after another
pub consts_strung : (ss : List Struct) (cs : List ConstTree) (xs : List LLVMConst) → strung (element_text ss) (behind_comma (element_text ss)) (map (const_at cs) xs) ≡ consts_text ss (consts_at cs xs)
consts_strung ss cs [] = refl
consts_strung ss cs (x ∷ xs) = rw (next_strung ss cs xs, written_type ss (const_at cs x)) refl

-- a constant is printed behind its type
pub element_put : (m : Module) (c : LLVMConst) (t : LLVMType) (r : Result (Unit {0}) AllocError) (old typed spaced new : List ℕ) → IsModule m → option_map kind_type (slice_get m.consts c.0) ≡ Some t
    → typed ≡ old ++ type_text (type_at (trees_of m).types t) → spaced ≡ typed ++ codes " " → OnOk r (new ≡ spaced ++ const_text (structs_of m) (const_at (trees_of m).consts c))
    → OnOk r (new ≡ old ++ element_text (structs_of m) (const_at (trees_of m).consts c))
element_put m c t r old typed spaced new s at e1 e2 e3 =
    let own = const_type-at m c t s at in
    let type = type_text (const_type (const_at (trees_of m).consts c)) in
    let two = appended_twice old typed spaced type (codes " ") (e1 ∙ ap (λ (τ : TypeTree). old ++ type_text τ) (sym own)) e2 in
    ok_two r old spaced new (type ++ codes " ") _ two e3

-- ---- the text of a constant is that of its kind

module _ (m : Module) (c : LLVMConst) where
  pub text-int : (t : LLVMType) (value : ℕ) → slice_get m.consts c.0 ≡ Some (C.Int t value) → const_text (structs_of m) (const_at (trees_of m).consts c) ≡ int_text (width_in (type_at (trees_of m).types t)) value
  text-int t value at = ap (const_text (structs_of m)) (int_const_of m c t value at)

  pub text-filled : (fill : Fill) (t : LLVMType) → slice_get m.consts c.0 ≡ Some (C.Filled fill t) → const_text (structs_of m) (const_at (trees_of m).consts c) ≡ filled_text fill (type_at (trees_of m).types t)
  text-filled fill t at = ap (const_text (structs_of m)) (filled_const_of m c fill t at)

  pub text-placeholder : (number : ℕ) (t : LLVMType) → slice_get m.consts c.0 ≡ Some (C.Placeholder number t) → const_text (structs_of m) (const_at (trees_of m).consts c) ≡ []
  text-placeholder number t at = ap (const_text (structs_of m)) (placeholder_const_of m c number t at)

  pub text-bytes : (t : LLVMType) (bytes : List ℕ) → slice_get m.consts c.0 ≡ Some (C.Bytes t bytes) → const_text (structs_of m) (const_at (trees_of m).consts c) ≡ chars_text bytes
  text-bytes t bytes at = ap (const_text (structs_of m)) (const_tree_of m c (C.Bytes t bytes) at tt)

  pub text-list : (t : LLVMType) (elements : List LLVMConst) → slice_get m.consts c.0 ≡ Some (C.List t elements) → IsMadeBelow c.0 (C.List t elements)
      → const_text (structs_of m) (const_at (trees_of m).consts c) ≡ list_text (structs_of m) (type_at (trees_of m).types t) (consts_at (trees_of m).consts elements)
  text-list t elements at below = ap (const_text (structs_of m)) (const_tree_of m c (C.List t elements) at below)

  pub text-splat : (t : LLVMType) (element : LLVMConst) → slice_get m.consts c.0 ≡ Some (C.Splat t element) → IsMadeBelow c.0 (C.Splat t element)
      → const_text (structs_of m) (const_at (trees_of m).consts c) ≡ splat_text (structs_of m) (const_at (trees_of m).consts element)
  text-splat t element at below =
      ap (const_text (structs_of m)) (const_tree_of m c (C.Splat t element) at below)
      ∙ ap (λ (τ : TypeTree). codes "splat (" ++ type_text τ ++ codes " " ++ const_text (structs_of m) (const_at (trees_of m).consts element) ++ codes ")") (written_type (structs_of m) (const_at (trees_of m).consts element))
