-- Which types of a module are types of values, by their numbers.
use Rattle.std.specs.Prelude.{ℕ, ◌≡◌, ◌<◌, ◌⊎◌, Bool, true, List, Some, slice_get}
use Rattle.kinds.specs.Types.{TypeTree}
use Rattle.kinds.specs.Held.{deepest}
use Rattle.llvm_core.specs.declared.numbers.LLVMType.{LLVMType}
use Rattle.llvm_core.specs.declared.types.LLVMTypeKind.TheVariants as T
use Rattle.llvm_core.specs.declared.consts.LLVMConstKind.{LLVMConstKind}
use Rattle.llvm_core.specs.declared.code.LLVMValue.{LLVMValue}
use Rattle.llvm_core.specs.declared.code.LLVMValue.TheVariants as V
use Rattle.llvm_core.specs.declared.code.PhiEntry.{PhiEntry}
use Rattle.llvm_core.specs.declared.code.FunctionData.{FunctionData}
use Rattle.llvm_core.specs.declared.code.InstData.{InstData}
use Rattle.llvm_core.specs.Module.{Module}
use Rattle.llvm_core.specs.Parts.{const_type, operands}
use Rattle.llvm_core.specs.Depths.{nests_at}
use Rattle.held_types.specs.Walk.{IsIn, IsAmong, IsOfOne}

-- what the function of that number returns or takes is of that type, or of one that holds it
pub record IsInSignature (m : Module) (f : ℕ) (u : TypeTree) : Type 0 where
  pub function : FunctionData
  pub at : slice_get m.functions f ≡ Some function
  pub returned : LLVMType
  pub params : List LLVMType
  pub variadic : Bool
  pub kind : slice_get m.types function.ty.0 ≡ Some (T.Function returned params variadic)
  pub inside : IsIn m returned u ⊎ IsAmong m params u

-- of one of the first functions
abbrev pub IsInSignatures : Module → (count : ℕ) → TypeTree → Type 0
IsInSignatures m count u = (f : ℕ) × (f < count) × IsInSignature m f u

-- the result of the instruction of that number is
abbrev pub IsInResult : Module → ℕ → TypeTree → Type 0
IsInResult m i u = (x : InstData) × (slice_get m.insts i ≡ Some x) × IsIn m x.ty u

-- of one of the first instructions
abbrev pub IsInResults : Module → (count : ℕ) → TypeTree → Type 0
IsInResults m count u = (i : ℕ) × (i < count) × IsInResult m i u

-- ---- constants that instructions use

-- the value is a constant of that type, or of one that holds it
abbrev pub IsInConstant : Module → LLVMValue → TypeTree → Type 0
IsInConstant m (V.Const c) u = (k : LLVMConstKind) × (slice_get m.consts c.0 ≡ Some k) × IsIn m (const_type k) u
IsInConstant m (V.Param f place) u = ⊥
IsInConstant m (V.Inst i) u = ⊥

-- the value of a phi's entry is
abbrev pub IsInEntry : Module → PhiEntry → TypeTree → Type 0
IsInEntry m e u = IsInConstant m e.value u

-- an operand of the instruction of that number is
abbrev pub IsInConstantsOf : Module → ℕ → TypeTree → Type 0
IsInConstantsOf m i u = (x : InstData) × (slice_get m.insts i ≡ Some x) × IsOfOne (IsInConstant m) (operands x.inst) u

-- of one of the first instructions
abbrev pub IsInConstants : Module → (count : ℕ) → TypeTree → Type 0
IsInConstants m count u = (i : ℕ) × (i < count) × IsInConstantsOf m i u

-- where the value is a constant, its type nests no deeper than is allowed
abbrev pub NestsIfConstant : Module → LLVMValue → Type 0
NestsIfConstant m (V.Const c) = (k : LLVMConstKind) → slice_get m.consts c.0 ≡ Some k → nests_at m (const_type k) deepest ≡ true
NestsIfConstant m (V.Param f place) = Unit {0}
NestsIfConstant m (V.Inst i) = Unit {0}
