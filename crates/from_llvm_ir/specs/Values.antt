-- Which values of the dialect stand for those of a source function, and which are not known yet.
use Rattle.std.specs.Prelude.{ℕ, ◌≡◌, ◌<◌, ◌&&◌, nat_eq, nat_lt, List, Option, None, Some, IsSome, if◌then◌else◌, length, slice_get}
use Rattle.support.specs.declared.number_map.NumberMap.{NumberMap}
use Rattle.support.specs.NumberMaps as numbers
use Rattle.std.specs.Option.{option_map}
use Rattle.llvm_core.specs.declared.numbers.LLVMFunction.{LLVMFunction}
use Rattle.llvm_core.specs.declared.numbers.LLVMInstRef.{LLVMInstRef}
use Rattle.llvm_core.specs.declared.code.LLVMValue.{LLVMValue}
use Rattle.llvm_core.specs.declared.code.LLVMValue.TheVariants as V
use Rattle.llvm_core.specs.declared.code.InstData.{InstData}
use Rattle.llvm_core.specs.contracts.code.LLVMValuePartialEq.TheImpl as keys
use Rattle.llvm_core.specs.Module.{Module}
use Rattle.llvm_core.specs.declared.numbers.LLVMBasicBlock.{LLVMBasicBlock}
use Rattle.llvm_core.specs.Data as L
use Rattle.dialect_core.specs.declared.numbers.BlockRef.{BlockRef}
use Rattle.meaning.specs.Pairs.{Matched}
use Rattle.dialect_core.specs.declared.ops.Value.{Value}
use Rattle.dialect_core.specs.declared.ops.Value.TheVariants as D
use Rattle.from_llvm_ir.specs.declared.values.Params.{Params}
use Rattle.from_llvm_ir.specs.declared.values.Values.{Values}
use Rattle.from_consts.specs.declared.conversion_err.ConversionErr.{ConversionErr}
use Rattle.from_consts.specs.declared.conversion_err.ConversionErr.TheVariants as E
use Rattle.from_llvm_ir.specs.Imported.{IsIn}

-- the value that stands for a parameter, where there is one
abbrev pub param_at : Params → LLVMFunction → ℕ → Option Value
param_at p f i = if nat_eq f.0 p.function.0 && nat_lt i p.count then Some (D.Argument p.block i) else None

-- the value that stands for one of the source, where one was noted
abbrev pub value_at : Values → LLVMValue → Option Value
value_at s (V.Inst i) = numbers.value_at s.insts i.0
value_at s (V.Const c) = numbers.value_at s.consts c.0
value_at s (V.Param f i) = param_at s.params f i

-- the value is the result of an instruction among the operands, for which no value was noted, and has that name
pub record IsUnknown (m : Module) (values : Values) (among : List L.Operand) (name : List ℕ) (v : LLVMValue) : Type 0 where
  pub inst : LLVMInstRef
  pub value : v ≡ V.Inst inst
  pub row : InstData
  pub at : slice_get m.insts inst.0 ≡ Some row
  pub named : name ≡ row.name
  pub used : IsIn among (L.Result inst.0)
  pub unknown : value_at values v ≡ None

-- why one of the operands was refused; want of memory needs no reason
abbrev pub IsForward : Module → Values → List L.Operand → ConversionErr → Type 0
IsForward m values used (E.UndefinedValue name v) = IsUnknown m values used name v
IsForward m values used (E.IntConstTooWide width) = ⊥
IsForward m values used (E.Unsupported u) = ⊥
IsForward m values used (E.Struct s) = ⊥
IsForward m values used E.NoMemory = Unit {0}

-- the refusal of the result of an instruction, by its name; or want of memory
abbrev pub IsRefusalOf : Module → LLVMInstRef → ConversionErr → Type 0
IsRefusalOf m i (E.UndefinedValue name v) = (v ≡ V.Inst i) × (option_map (λ (x : InstData). x.name) (slice_get m.insts i.0) ≡ Some name)
IsRefusalOf m i (E.IntConstTooWide width) = ⊥
IsRefusalOf m i (E.Unsupported u) = ⊥
IsRefusalOf m i (E.Struct s) = ⊥
IsRefusalOf m i E.NoMemory = Unit {0}

-- a value is noted, unless it is the result of an instruction that is there
abbrev pub IsSettled : Module → Values → LLVMValue → Type 0
IsSettled m values (V.Inst i) = i.0 < length m.insts
IsSettled m values v = IsSome (value_at values v)

-- a constant, or the result of an instruction
abbrev pub IsMade : LLVMValue → Type 0
IsMade (V.Inst i) = Unit {0}
IsMade (V.Const c) = Unit {0}
IsMade (V.Param f i) = ⊥

-- one more value is noted
abbrev pub IsNoted : Values → Values → LLVMValue → Value → Type 0
IsNoted old new key to = (q : LLVMValue) → value_at new q ≡ (if keys.eq-value.it key q then Some to else value_at old q)

-- the values that are noted
abbrev pub AreNoted : Values → List LLVMValue → List Value → Type 0
AreNoted values vs ws = Matched (λ (v : LLVMValue) (w : Value). value_at values v ≡ Some w) vs ws

-- the blocks that stand for those of the source
abbrev pub Targets : Type 0
Targets = NumberMap BlockRef

-- the block that stands for one of the source
abbrev pub target_at : Targets → LLVMBasicBlock → Option BlockRef
target_at t n = numbers.value_at t n.0
