-- What holds in the loop of `llvm_body::push_all`.
use Rattle.std.specs.Prelude.{◌≡◌, ◌++◌, map, take}
use Rattle.llvm_core.specs.declared.numbers.LLVMBasicBlock.{LLVMBasicBlock}
use Rattle.tracing.specs.LlvmBodies.{edge_to}
use Rattle.tracing.proofs.llvm_body.push_all.Given as goal

abbrev pub invariant-loop-target : goal.invariant-loop-target
invariant-loop-target l = record { at : l.edges ≡ l.fn.edges ++ map (λ (b : LLVMBasicBlock). edge_to l.index l.from b.0) (take l.target-index l.targets) }
