-- The dialect text of types.
use Rattle.std.specs.Prelude.{ℕ, zero, suc, Bool, true, false, Option, Some, None, List, [], ◌∷◌, ◌++◌, codes}
use Rattle.std.specs.Fmt.{decimal}
use Rattle.kinds.specs.declared.types.Floating.{Floating}
use Rattle.kinds.specs.declared.types.Floating.TheVariants as F
use Rattle.kinds.specs.declared.types.VectorTypeKind.{VectorTypeKind}
use Rattle.kinds.specs.declared.types.VectorTypeKind.TheVariants as V
use Rattle.kinds.specs.declared.types.StructLayout.{StructLayout}
use Rattle.kinds.specs.declared.types.StructLayout.TheVariants as L
pub use Rattle.support.specs.Appended.{Keeps}
use Rattle.dialect_types.specs.Trees.{TypeTree, VoidType, IntType, PointerType, FloatingType, RefusedType, ArrayType, VectorType, StructType, NamedType, FunctionType, TypeTrees, NoTypes, ThenType, StructBody, NamedStruct}

-- the word of a truth value
abbrev pub truth_text : Bool → List ℕ
truth_text true = codes "true"
truth_text false = codes "false"

-- a comma before each text but the first, which stands at the place 0
abbrev pub comma_before : ℕ → List ℕ
comma_before zero = []
comma_before (suc n) = codes ", "

-- each text after a comma
abbrev pub each_after : List (List ℕ) → List ℕ
each_after [] = []
each_after (x ∷ xs) = codes ", " ++ x ++ each_after xs

-- texts with commas between them
abbrev pub joined : List (List ℕ) → List ℕ
joined [] = []
joined (x ∷ xs) = x ++ each_after xs

-- the word of a floating-point type, a line for each
abbrev pub floating_text : Floating → List ℕ
floating_text F.Half = codes "builtin.fp16"
floating_text F.BFloat = codes "builtin.bf16"
floating_text F.Float = codes "builtin.fp32"
floating_text F.Double = codes "builtin.fp64"

-- what a vector begins with
abbrev pub vector_head : VectorTypeKind → List ℕ
vector_head V.Fixed = codes "llvm.vector ["
vector_head V.Scalable = codes "llvm.vector [vscale "

-- what a struct begins with
abbrev pub struct_head : StructLayout → List ℕ
struct_head L.Unpacked = codes "llvm.struct <{"
struct_head L.Packed = codes "llvm.struct <packed {"

-- behind its beginning, what is so many of one type
abbrev pub counted_text : (head : List ℕ) (count : ℕ) (element : List ℕ) → List ℕ
counted_text head count element = head ++ decimal count ++ codes " x " ++ element ++ codes "]"

abbrev mutual
  -- the text of a type
  pub type_text : TypeTree → List ℕ
  type_text VoidType = codes "llvm.void"
  type_text (IntType w) = codes "builtin.integer i" ++ decimal w
  type_text (PointerType space) = codes "llvm.ptr (" ++ decimal space ++ codes ")"
  type_text (FloatingType of) = floating_text of
  -- no type of the dialect
  type_text (RefusedType of) = []
  type_text (ArrayType count t) = counted_text (codes "llvm.array [") count (type_text t)
  type_text (VectorType kind count t) = counted_text (vector_head kind) count (type_text t)
  type_text (StructType layout ts) = struct_head layout ++ joined (type_texts ts) ++ codes "}>"
  type_text (NamedType name) = codes "llvm.struct <@" ++ name ++ codes ">"
  type_text (FunctionType result params variadic) =
      codes "llvm.func <" ++ type_text result ++ codes " (" ++ joined (type_texts params) ++ codes ") variadic = " ++ truth_text variadic ++ codes ">"

  -- the text of each type
  pub type_texts : TypeTrees → List (List ℕ)
  type_texts NoTypes = []
  type_texts (ThenType t ts) = type_text t ∷ type_texts ts

-- ---- structs with names

-- what a struct with a name has between its braces begins with
abbrev pub body_head : StructLayout → List ℕ
body_head L.Unpacked = codes "{"
body_head L.Packed = codes "packed {"

-- the fields of a struct, as they stand beside its name
abbrev pub body_text : Option StructBody → List ℕ
body_text None = codes "opaque"
body_text (Some b) = body_head b.layout ++ joined (type_texts b.fields) ++ codes "}"

-- the line of a struct in a module
abbrev pub struct_text : NamedStruct → List ℕ
struct_text s = codes "  llvm.struct @" ++ s.name ++ codes " = " ++ body_text s.body ++ codes "\n"
