-- What an instruction consists of, and the kind of operation that stands for it.
use Rattle.std.specs.Prelude.{◌≡◌, List, []}
use Rattle.llvm_core.specs.declared.numbers.LLVMBasicBlock.{LLVMBasicBlock}
use Rattle.llvm_core.specs.declared.code.LLVMInst.{LLVMInst}
use Rattle.llvm_core.specs.declared.code.LLVMInst.TheVariants as I
use Rattle.dialect_core.specs.declared.ops.OpKind.{OpKind}
use Rattle.dialect_core.specs.declared.ops.OpKind.TheVariants as K

-- the blocks that an instruction leads to
abbrev pub target_blocks : LLVMInst → List LLVMBasicBlock
target_blocks (I.Phi type entries) = []
target_blocks (I.Row r) = r.targets

-- the kind that stands for an instruction: the same row of the table, with its immediates; a phi becomes no operation
abbrev pub IsOpKind : LLVMInst → OpKind → Type 0
IsOpKind (I.Phi type entries) k = ⊥
IsOpKind (I.Row r) k = k ≡ K.Row r.op
