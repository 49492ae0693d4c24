-- What the kind of a type of a source tells: it is that of the source's own, but for the name of a struct.
use Rattle.std.proofs.Common.{ℕ, ◌≡◌, ◌∙◌, refl, sym, ap, subst, List, Option, Some, slice_get}
use Rattle.std.specs.Prelude.{IsTrue}
use Rattle.std.proofs.lemmas.Option.{same_Some}
use Rattle.llvm_core.specs.declared.numbers.LLVMType.{LLVMType}
use Rattle.llvm_core.specs.declared.types.LLVMTypeKind.{LLVMTypeKind}
use Rattle.llvm_core.specs.declared.types.LLVMTypeKind.TheVariants as T
use Rattle.llvm_core.specs.Parts.{IsFunctionType, is_function, shape_of}
use Rattle.renamed_source.specs.Names.{IsSeenKind}

-- it is the kind, where that names no struct
pub seen_unnamed : (seen : Option LLVMTypeKind) (k : LLVMTypeKind) → IsSeenKind seen k → ((n : List ℕ) → ¬ (seen ≡ Some (T.Named n))) → seen ≡ Some k
seen_unnamed seen (T.Named name) h un = absurd (un h.0 h.1)
seen_unnamed seen k h un = h

named_no_function : (k : LLVMTypeKind) (n : List ℕ) → k ≡ T.Named n → ¬ IsTrue (is_function k)
named_no_function k n is h = let e : is_function k ≡ is_function (T.Named n) = ap is_function is in let no = subst IsTrue e h in cc

-- it is the kind of a function type
pub seen_function : (types : List LLVMTypeKind) (t : LLVMType) (k : LLVMTypeKind) → IsSeenKind (slice_get types t.0) k → IsFunctionType types t → slice_get types t.0 ≡ Some k
seen_function types t k h f = seen_unnamed (slice_get types t.0) k h (λ n e. named_no_function f.0 n (same_Some f.0 (T.Named n) (sym f.1 ∙ e)) f.2)

-- it has the shape of the kind
pub seen_shape : (seen : Option LLVMTypeKind) (k : LLVMTypeKind) → IsSeenKind seen k → (l : LLVMTypeKind) × (seen ≡ Some l) × (shape_of k ≡ shape_of l)
seen_shape seen (T.Named name) h = (T.Named h.0, h.1, refl)
seen_shape seen k h = (k, h, refl)
