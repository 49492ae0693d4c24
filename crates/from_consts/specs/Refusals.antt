-- Why a type is not converted.
use Rattle.std.specs.Prelude.{◌≡◌, ℕ, List, Some, slice_get}
use Rattle.kinds.specs.Structs.{Struct, struct_in}
use Rattle.llvm_core.specs.declared.numbers.LLVMType.{LLVMType}
use Rattle.llvm_core.specs.declared.types.LLVMTypeKind.TheVariants as T
use Rattle.llvm_core.specs.Module.{Module}
use Rattle.llvm_core.specs.Data.{structs_of}
use Rattle.dialect_types.specs.Legalised.{Named}
use Rattle.dialect_types.specs.declared.struct_err.StructErr.TheVariants as S
use Rattle.from_consts.specs.declared.conversion_err.ConversionErr.{ConversionErr}
use Rattle.from_consts.specs.declared.conversion_err.ConversionErr.TheVariants as E
use Rattle.from_consts.specs.declared.conversion_err.Unsupported.TheVariants as U
use Rattle.from_consts.specs.Parts.{HasNamed}
use Rattle.from_consts.specs.Names.{IsConverted}

-- a context had these structs before: under the identifier of a struct that is named by a type of which W holds it had another
pub record HasOtherStruct (m : Module) (W : LLVMType → Type 0) (before : List Struct) (given : List Named) (identifier : List ℕ) : Type 0 where
  pub name : List ℕ
  pub named : HasNamed m W name
  pub struct : Struct
  pub is : IsConverted (structs_of m) given name struct
  pub called : struct.name ≡ identifier
  pub other : Struct
  pub there : struct_in before identifier ≡ Some other
  pub differs : ¬ (other ≡ struct)

-- why a conversion is refused of types of which W holds; want of memory needs no reason
abbrev pub IsCause : Module → (LLVMType → Type 0) → (before : List Struct) → (given : List Named) → ConversionErr → Type 0
IsCause m W before given (E.UndefinedValue name v) = ⊥
IsCause m W before given (E.IntConstTooWide width) = ⊥
IsCause m W before given (E.Unsupported (U.Ty of)) = (t : LLVMType) × W t × (slice_get m.types t.0 ≡ Some (T.Other of))
IsCause m W before given (E.Unsupported U.ScalableSplat) = ⊥
IsCause m W before given (E.Struct (S.DifferentBody identifier)) = HasOtherStruct m W before given identifier
IsCause m W before given (E.Struct S.NoMemory) = ⊥
IsCause m W before given E.NoMemory = Unit {0}
