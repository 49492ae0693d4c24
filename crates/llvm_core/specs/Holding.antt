-- What a constant may be made of, by the kind of its type.
use Rattle.std.specs.Prelude.{◌≡◌, ℕ, List, length, replicate, slice_get, Some, All}
use Rattle.kinds.specs.declared.types.VectorTypeKind.{VectorTypeKind}
use Rattle.kinds.specs.declared.types.VectorTypeKind.TheVariants as N
use Rattle.llvm_core.specs.declared.numbers.LLVMType.{LLVMType}
use Rattle.llvm_core.specs.declared.numbers.LLVMConst.{LLVMConst}
use Rattle.llvm_core.specs.declared.types.LLVMTypeKind.{LLVMTypeKind}
use Rattle.llvm_core.specs.declared.types.LLVMTypeKind.TheVariants as T
use Rattle.llvm_core.specs.declared.consts.LLVMConstKind.{LLVMConstKind}
use Rattle.llvm_core.specs.declared.consts.LLVMConstKind.TheVariants as C
use Rattle.llvm_core.specs.declared.structs.StructData.{StructData}
use Rattle.llvm_core.specs.Module.{Module}
use Rattle.llvm_core.specs.Parts.{IsIntAt}
use Rattle.llvm_core.specs.Consts.{IsElement, AreElements}

-- an integer of a type of that kind may have that value
abbrev pub TakesInt : ℕ → LLVMTypeKind → Type 0
TakesInt value k = (width : ℕ) × (k ≡ T.Int width) × IsIntAt width value

module _ (consts : List LLVMConstKind) where
  -- as many elements as types, each of its own
  abbrev pub AreOf : List LLVMConst → List LLVMType → Type 0
  AreOf elements parts = (length elements ≡ length parts) × ((i : ℕ) (c : LLVMConst) (u : LLVMType) → slice_get elements i ≡ Some c → slice_get parts i ≡ Some u → IsElement consts u c)

  -- so many elements of one type
  abbrev pub AreOfOne : ℕ → LLVMType → List LLVMConst → Type 0
  AreOfOne count t elements = (length elements ≡ count) × All (IsElement consts t) elements

  -- a constant of a type of that kind may be a list of these
  abbrev pub TakesList : List StructData → List LLVMConst → LLVMTypeKind → Type 0
  TakesList structs elements k = (parts : List LLVMType) × AreElements structs k parts × AreOf elements parts

  -- each element of a type of that kind may be that
  abbrev pub TakesLane : LLVMConst → LLVMTypeKind → Type 0
  TakesLane c k = (count : ℕ) × (e : LLVMType) × (k ≡ T.Vector N.Scalable count e) × IsElement consts e c

-- a type of that kind is that of so many integers of 8 bits
abbrev pub TakesBytes : List LLVMTypeKind → ℕ → LLVMTypeKind → Type 0
TakesBytes types count k = (e : LLVMType) × (k ≡ T.Array count e) × (slice_get types e.0 ≡ Some (T.Int 8))

-- t is a vector type, and each lane of one may be that constant
abbrev pub IsSplatOf : Module → LLVMType → LLVMConst → Type 0
IsSplatOf m t c = (kind : VectorTypeKind) × (count : ℕ) × (e : LLVMType) × (slice_get m.types t.0 ≡ Some (T.Vector kind count e)) × IsElement m.consts e c

-- a vector of a type of that kind each lane of which is that constant: one of a known length is the list of its lanes
abbrev pub lanes_of : LLVMTypeKind → LLVMType → LLVMConst → LLVMConstKind
lanes_of (T.Vector N.Fixed count e) t c = C.List t (replicate count c)
lanes_of k t c = C.Splat t c
