-- The fields of a struct, printed one after another.
use Rattle.std.proofs.Common.{◌≡◌, ℕ, zero, suc, List, [], ◌∷◌, ◌++◌, codes, length, map, refl, ap, ◌∙◌, append_assoc}
use Rattle.std.specs.List.{flat_map}
use Rattle.kinds.specs.declared.types.StructLayout.{StructLayout}
use Rattle.llvm_core.specs.declared.numbers.LLVMType.{LLVMType}
use Rattle.llvm_core.specs.Data.{TypeTree, StructType, type_at, types_at}
use Rattle.ll_print.specs.Printing.{type_text, before_brace, struct_open, struct_close, fields_text, next_fields_text}
use Rattle.ll_print.specs.Parts.{gap_text, close_text}
use Rattle.ll_print.proofs.StrungLaws.{strung, piece, behind_comma}

abbrev pub first_field : TypeTree → List ℕ
first_field t = codes " " ++ type_text t

gap_piece : (i : ℕ) (t : TypeTree) → gap_text i ++ type_text t ≡ piece first_field (behind_comma type_text) i t
gap_piece zero t = refl
gap_piece (suc i) t = refl

-- the field at a place is printed behind its gap
pub gap_put : (i : ℕ) (t : TypeTree) (now gap new : List ℕ) → gap ≡ now ++ gap_text i → new ≡ gap ++ type_text t → new ≡ now ++ piece first_field (behind_comma type_text) i t
gap_put i t now gap new e1 e2 = rw (e2, e1) (append_assoc now (gap_text i) (type_text t) ∙ ap (λ (u : List ℕ). now ++ u) (gap_piece i t))

next_strung : (ts : List TypeTree) (xs : List LLVMType) → flat_map (behind_comma type_text) (map (type_at ts) xs) ≡ next_fields_text (types_at ts xs)
next_strung ts [] = refl
next_strung ts (x ∷ xs) = rw (next_strung ts xs) refl

pub fields_strung : (ts : List TypeTree) (xs : List LLVMType) → strung first_field (behind_comma type_text) (map (type_at ts) xs) ≡ fields_text (types_at ts xs)
fields_strung ts [] = refl
fields_strung ts (x ∷ xs) = rw (next_strung ts xs) refl

-- what stands behind them
pub close_is : (ts : List TypeTree) (l : StructLayout) (xs : List LLVMType) → close_text l (length xs) ≡ before_brace (types_at ts xs) ++ struct_close l
close_is ts l [] = refl
close_is ts l (x ∷ xs) = refl

-- the pieces of a struct, one after another
pub struct_put : (ts : List TypeTree) (l : StructLayout) (xs : List LLVMType) (n : ℕ) (old before mid now new : List ℕ) → before ≡ struct_open l → mid ≡ old ++ before → now ≡ mid ++ fields_text (types_at ts xs) → n ≡ length xs → new ≡ now ++ close_text l n
    → new ≡ old ++ type_text (StructType l (types_at ts xs))
struct_put ts l xs n old before mid now new e0 e1 e2 e3 e4 = rw (e4, e3, e2, e1, e0, close_is ts l xs) (simp append_assoc)
