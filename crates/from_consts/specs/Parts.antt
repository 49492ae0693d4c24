-- What a type or a constant of an LLVM module is made of, by numbers: its parts, and the fields of the structs that a type names.
use Rattle.std.specs.Prelude.{◌≡◌, ℕ, List, [], ◌∷◌, Some, slice_get}
use Rattle.llvm_core.specs.declared.consts.LLVMConstKind.{LLVMConstKind}
use Rattle.llvm_core.specs.declared.consts.LLVMConstKind.TheVariants as C
use Rattle.llvm_core.specs.declared.numbers.LLVMConst.{LLVMConst}
use Rattle.llvm_core.specs.declared.numbers.LLVMStruct.{LLVMStruct}
use Rattle.llvm_core.specs.declared.numbers.LLVMType.{LLVMType}
use Rattle.llvm_core.specs.declared.structs.StructData.{StructData}
use Rattle.llvm_core.specs.declared.structs.StructFields.{StructFields}
use Rattle.llvm_core.specs.declared.types.LLVMTypeKind.{LLVMTypeKind}
use Rattle.llvm_core.specs.declared.types.LLVMTypeKind.TheVariants as T
use Rattle.llvm_core.specs.Module.{Module}
use Rattle.llvm_core.specs.Data.{data_of}
use Rattle.held_types.specs.Held.{IsStructOf}

-- the numbers of the parts of a kind: a line for each that has parts
abbrev pub parts_in : LLVMTypeKind → List LLVMType
parts_in (T.Array count t) = t ∷ []
parts_in (T.Vector kind count t) = t ∷ []
parts_in (T.Literal fields layout) = fields
parts_in (T.Function result params variadic) = result ∷ params
parts_in _ = []

-- the type of the number names the struct of that name
abbrev pub IsNamed : Module → LLVMType → List ℕ → Type 0
IsNamed m t name = slice_get m.types t.0 ≡ Some (T.Named name)

-- u is the type of a field of the struct of that name
pub record IsFieldOf (m : Module) (name : List ℕ) (u : LLVMType) : Type 0 where
  pub number : LLVMStruct
  pub is : IsStructOf (data_of m) name number
  pub row : StructData
  pub at : slice_get m.structs number.0 ≡ Some row
  pub body : StructFields
  pub told : row.body ≡ Some body
  pub place : ℕ
  pub here : slice_get body.types place ≡ Some u

-- u is a part of t, or a field of the struct that t names
pub data IsPart (m : Module) (u t : LLVMType) : Type 0 where
  InKind : (k : LLVMTypeKind) (place : ℕ) → slice_get m.types t.0 ≡ Some k → slice_get (parts_in k) place ≡ Some u → IsPart m u t
  InStruct : (name : List ℕ) → IsNamed m t name → IsFieldOf m name u → IsPart m u t

-- u is t, or a part of it, all the way in
pub data IsWithin (m : Module) (u : LLVMType) : LLVMType → Type 0 where
  Itself : IsWithin m u u
  Inside : (t v : LLVMType) → IsPart m v t → IsWithin m u v → IsWithin m u t

-- u is within one of the types
abbrev pub IsAmong : Module → List LLVMType → LLVMType → Type 0
IsAmong m ts u = (i : ℕ) × (t : LLVMType) × (slice_get ts i ≡ Some t) × IsWithin m u t

-- one of which W holds names the struct
abbrev pub HasNamed : Module → (LLVMType → Type 0) → List ℕ → Type 0
HasNamed m W name = (t : LLVMType) × W t × IsNamed m t name

-- u is within a field of the struct of that number
abbrev pub IsInStruct : Module → LLVMStruct → LLVMType → Type 0
IsInStruct m s u = (x : StructData) × (b : StructFields) × (slice_get m.structs s.0 ≡ Some x) × (x.body ≡ Some b) × IsAmong m b.types u

-- ---- constants

-- the numbers of the constants that a constant is made of: a line for each kind that has such
abbrev pub elements_in : LLVMConstKind → List LLVMConst
elements_in (C.List t elements) = elements
elements_in (C.Splat t element) = element ∷ []
elements_in _ = []

-- d is c, or a constant that c is made of, all the way in
pub data IsInside (m : Module) (d : LLVMConst) : LLVMConst → Type 0 where
  TheWhole : IsInside m d d
  InElement : (c e : LLVMConst) (k : LLVMConstKind) (place : ℕ) → slice_get m.consts c.0 ≡ Some k → slice_get (elements_in k) place ≡ Some e → IsInside m d e → IsInside m d c
