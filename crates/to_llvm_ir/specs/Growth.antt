-- A module of LLVM that grows: what was there keeps its type.
use Rattle.std.specs.Prelude.{◌≡◌, ◌<◌, ℕ, true, List, ◌++◌, length, map, slice_get, All, Some}
use Rattle.llvm_core.specs.declared.numbers.LLVMType.{LLVMType}
use Rattle.llvm_core.specs.declared.types.LLVMTypeKind.{LLVMTypeKind}
use Rattle.llvm_core.specs.declared.consts.LLVMConstKind.{LLVMConstKind}
use Rattle.llvm_core.specs.declared.code.LLVMValue.{LLVMValue}
use Rattle.llvm_core.specs.declared.code.FunctionData.{FunctionData}
use Rattle.llvm_core.specs.declared.code.InstData.{InstData}
use Rattle.llvm_core.specs.Module.{Module}
use Rattle.llvm_core.specs.Parts.{value_type, is_phi}
use Rattle.llvm_core.specs.Data as L
use Rattle.llvm_core.specs.Data.{trees_of}

-- the instruction keeps its type, and a phi stays one
pub record KeepsInst (x y : InstData) : Type 0 where
  pub type : y.ty ≡ x.ty
  pub phi : is_phi x.inst ≡ true → is_phi y.inst ≡ true

-- types and constants are new at most, each last; functions and instructions keep their types
pub record Grows (old new : Module) : Type 0 where
  pub more_types : List LLVMTypeKind
  pub types : new.types ≡ old.types ++ more_types
  pub more_consts : List LLVMConstKind
  pub consts : new.consts ≡ old.consts ++ more_consts
  pub functions : (f : ℕ) (x : FunctionData) → slice_get old.functions f ≡ Some x → (y : FunctionData) × (slice_get new.functions f ≡ Some y) × (y.ty ≡ x.ty)
  pub insts : (i : ℕ) (x : InstData) → slice_get old.insts i ≡ Some x → (y : InstData) × (slice_get new.insts i ≡ Some y) × KeepsInst x y

-- the number of a type with that tree
abbrev pub IsTypeOf : Module → LLVMType → L.TypeTree → Type 0
IsTypeOf m t tree = (t.0 < length m.types) × (L.type_at (trees_of m).types t ≡ tree)

-- numbers of types with those trees, one by one
abbrev pub AreTypesOf : Module → List LLVMType → List L.TypeTree → Type 0
AreTypesOf m ts trees = All (λ (t : LLVMType). t.0 < length m.types) ts × (map (L.type_at (trees_of m).types) ts ≡ trees)

-- a value of a type with that tree
abbrev pub HasType : Module → LLVMValue → L.TypeTree → Type 0
HasType m v tree = (t : LLVMType) × (value_type m v ≡ Some t) × (L.type_at (trees_of m).types t ≡ tree)
