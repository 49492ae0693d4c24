-- The functions, blocks and instructions of a module as lists, and how building calls change them.
use Rattle.std.specs.Prelude.{◌<◌, ◌^◌, ℕ, List, [], ◌∷◌, ◌++◌, length, slice_get, slice_set}
use Rattle.std.specs.Option.{option_map_or}
use Rattle.support.specs.Changes.{with_change}
use Rattle.llvm_core.specs.declared.numbers.LLVMType.{LLVMType}
use Rattle.llvm_core.specs.declared.numbers.LLVMFunction.{LLVMFunction}
use Rattle.llvm_core.specs.declared.numbers.LLVMBasicBlock.{LLVMBasicBlock}
use Rattle.llvm_core.specs.declared.numbers.LLVMInstRef.{LLVMInstRef}
use Rattle.llvm_core.specs.declared.code.LLVMValue.{LLVMValue}
use Rattle.llvm_core.specs.declared.code.PhiEntry.{PhiEntry}
use Rattle.llvm_core.specs.declared.code.LLVMInst.{LLVMInst}
use Rattle.llvm_core.specs.declared.code.LLVMInst.TheVariants as I
use Rattle.llvm_core.specs.declared.code.FunctionData.{FunctionData}
use Rattle.llvm_core.specs.declared.code.BlockData.{BlockData}
use Rattle.llvm_core.specs.declared.code.InstData.{InstData}
use Rattle.llvm_core.specs.Module.{Module}

pub record Code : Type 0 where
  pub functions : List FunctionData
  pub blocks : List BlockData
  pub insts : List InstData

-- the lists are short enough for their numbers
pub record IsFew (c : Code) : Type 0 where
  pub functions : length c.functions < 2 ^ 32
  pub blocks : length c.blocks < 2 ^ 32
  pub insts : length c.insts < 2 ^ 32

abbrev pub code_of : Module → Code
code_of m = record { functions = m.functions; blocks = m.blocks; insts = m.insts }

-- the module with that code
abbrev pub with_code : Module → Code → Module
with_code m c = record m { functions = c.functions; blocks = c.blocks; insts = c.insts }

abbrev pub with_function : Code → FunctionData → Code
with_function c f = record c { functions = c.functions ++ f ∷ [] }

-- the function f has that name at that place of its parameters' names
abbrev pub with_param_name : Code → LLVMFunction → ℕ → List ℕ → Code
with_param_name c f place name =
    record c { functions = with_change (λ (x : FunctionData). record x { params = slice_set x.params place name }) f.0 c.functions }

-- the function f has the empty block b last
abbrev pub with_block : Code → LLVMFunction → LLVMBasicBlock → List ℕ → Code
with_block c f b name = record c {
  blocks = c.blocks ++ (record { name = name; function = f; insts = [] }) ∷ [];
  functions = with_change (λ (x : FunctionData). record x { blocks = x.blocks ++ b ∷ [] }) f.0 c.functions;
}

-- the block b has the instruction i last
abbrev pub with_inst : Code → LLVMBasicBlock → LLVMInstRef → List ℕ → LLVMType → LLVMInst → Code
with_inst c b i name ty inst = record c {
  insts = c.insts ++ (record { name = name; block = b; ty = ty; inst = inst }) ∷ [];
  blocks = with_change (λ (x : BlockData). record x { insts = x.insts ++ i ∷ [] }) b.0 c.blocks;
}

-- the instruction with v as the operand at that place
abbrev pub with_operand : LLVMInst → ℕ → LLVMValue → LLVMInst
with_operand (I.Phi type entries) place v = I.Phi type (with_change (λ (e : PhiEntry). record e { value = v }) place entries)
with_operand (I.Row r) place v = I.Row (record r { operands = slice_set r.operands place v })

-- the phi with one more entry, last
abbrev pub with_entry : LLVMInst → PhiEntry → LLVMInst
with_entry (I.Phi type entries) e = I.Phi type (entries ++ e ∷ [])
with_entry inst e = inst

-- the instruction i is changed
abbrev pub with_changed_inst : Code → LLVMInstRef → (LLVMInst → LLVMInst) → Code
with_changed_inst c i change = record c { insts = with_change (λ (x : InstData). record x { inst = change x.inst }) i.0 c.insts }

-- the names of the parameters of the function f
abbrev pub param_names : List FunctionData → LLVMFunction → List (List ℕ)
param_names fs f = option_map_or (λ (x : FunctionData). x.params) (slice_get fs f.0) []
