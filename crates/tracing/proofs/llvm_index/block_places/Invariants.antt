-- What holds in the loop of `llvm_index::block_places`.
use Rattle.std.specs.Prelude.{◌≡◌, map, take}
use Rattle.llvm_core.specs.declared.numbers.LLVMBasicBlock.{LLVMBasicBlock}
use Rattle.tracing.proofs.llvm_index.block_places.Given as goal

abbrev pub invariant-loop-b : goal.invariant-loop-b
invariant-loop-b l = record { at : l.numbers.items ≡ map (λ (b : LLVMBasicBlock). b.0) (take l.b-index l.blocks) }
