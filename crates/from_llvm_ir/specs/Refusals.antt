-- Why an import refuses a function, and a module.
use Rattle.std.specs.Prelude.{ℕ, ◌≡◌, List, Some, All, slice_get}
use Rattle.kinds.specs.Types.{RefusedType}
use Rattle.kinds.specs.Structs.{Struct}
use Rattle.llvm_core.specs.Data as L
use Rattle.llvm_core.specs.declared.numbers.LLVMInstRef.{LLVMInstRef}
use Rattle.llvm_core.specs.declared.code.LLVMValue.{LLVMValue}
use Rattle.llvm_core.specs.declared.code.LLVMValue.TheVariants as V
use Rattle.dialect_types.specs.Legalised.{Named}
use Rattle.dialect_types.specs.declared.struct_err.StructErr.{StructErr}
use Rattle.dialect_types.specs.declared.struct_err.StructErr.TheVariants as S
use Rattle.held_types.specs.Held.{HasTypeWith, HasWideConst, HasScalableSplat}
use Rattle.from_consts.specs.declared.conversion_err.ConversionErr.{ConversionErr}
use Rattle.from_consts.specs.declared.conversion_err.ConversionErr.TheVariants as E
use Rattle.from_consts.specs.declared.conversion_err.Unsupported.{Unsupported}
use Rattle.from_consts.specs.declared.conversion_err.Unsupported.TheVariants as U
use Rattle.from_llvm_ir.specs.Imported.{name_in}
use Rattle.from_llvm_ir.specs.Structs.{HasOtherStruct, HasOtherAfter}
use Rattle.from_llvm_ir.specs.Walks.{HasValidUses, IsUndefined}

-- the value is the result of an instruction of f that is used where it is not defined, and has that name
pub record IsRefusedUse (f : L.Function) (name : List ℕ) (v : LLVMValue) : Type 0 where
  pub inst : LLVMInstRef
  pub value : v ≡ V.Inst inst
  pub undefined : IsUndefined f inst.0
  pub named : name ≡ name_in f inst.0

-- why a function is refused that is held; want of memory needs no reason
abbrev pub IsRefusalOfFunction : L.Function → ConversionErr → Type 0
IsRefusalOfFunction f (E.UndefinedValue name v) = IsRefusedUse f name v
IsRefusalOfFunction f (E.IntConstTooWide width) = ⊥
IsRefusalOfFunction f (E.Unsupported u) = ⊥
IsRefusalOfFunction f (E.Struct s) = ⊥
IsRefusalOfFunction f E.NoMemory = Unit {0}

-- a function of the module is refused for such a use
pub record HasUndefinedUse (d : L.ModuleData) (name : List ℕ) (v : LLVMValue) : Type 0 where
  pub place : ℕ
  pub f : L.Function
  pub at : slice_get d.functions place ≡ Some f
  pub refused : IsRefusedUse f name v

-- why functions of a module are refused that are held
abbrev pub IsRefusalOfFunctions : L.ModuleData → ConversionErr → Type 0
IsRefusalOfFunctions d (E.UndefinedValue name v) = HasUndefinedUse d name v
IsRefusalOfFunctions d (E.IntConstTooWide width) = ⊥
IsRefusalOfFunctions d (E.Unsupported u) = ⊥
IsRefusalOfFunctions d (E.Struct s) = ⊥
IsRefusalOfFunctions d E.NoMemory = Unit {0}

-- the module has what is not translated
abbrev pub IsUnsupported : L.ModuleData → Unsupported → Type 0
IsUnsupported d (U.Ty of) = HasTypeWith d (RefusedType of)
IsUnsupported d U.ScalableSplat = HasScalableSplat d

-- a struct of the module has the identifier of one that a context had before, with another body; no want of memory stands inside
abbrev pub IsStructCause : (before : List Struct) → L.ModuleData → StructErr → Type 0
IsStructCause before d (S.DifferentBody identifier) = HasOtherStruct before d identifier
IsStructCause before d S.NoMemory = ⊥

-- why an import into a context that had these structs before refuses a module whose data are d; want of memory needs no reason
abbrev pub IsCause : (before : List Struct) → L.ModuleData → ConversionErr → Type 0
IsCause before d (E.UndefinedValue name v) = HasUndefinedUse d name v
IsCause before d (E.IntConstTooWide width) = HasWideConst d width
IsCause before d (E.Unsupported u) = IsUnsupported d u
IsCause before d (E.Struct s) = IsStructCause before d s
IsCause before d E.NoMemory = Unit {0}

-- the same once the first names were met, which were these
abbrev pub IsCauseAfter : List Named → (before : List Struct) → L.ModuleData → ConversionErr → Type 0
IsCauseAfter names before d (E.UndefinedValue name v) = HasUndefinedUse d name v
IsCauseAfter names before d (E.IntConstTooWide width) = ⊥
IsCauseAfter names before d (E.Unsupported u) = ⊥
IsCauseAfter names before d (E.Struct (S.DifferentBody identifier)) = HasOtherAfter names before d identifier
IsCauseAfter names before d (E.Struct S.NoMemory) = ⊥
IsCauseAfter names before d E.NoMemory = Unit {0}

-- refusals that come before anything is made
abbrev pub IsEarly : ConversionErr → Type 0
IsEarly (E.UndefinedValue name v) = ⊥
IsEarly (E.IntConstTooWide width) = Unit {0}
IsEarly (E.Unsupported u) = Unit {0}
IsEarly (E.Struct s) = ⊥
IsEarly E.NoMemory = ⊥

-- in each function each use is valid
abbrev pub IsValid : L.ModuleData → Type 0
IsValid d = All HasValidUses d.functions
