-- What the loop of `edges::push_all` keeps.
use Rattle.std.proofs.Common.{map, take}
use Rattle.llvm_core.specs.declared.numbers.LLVMBasicBlock.{LLVMBasicBlock}
use Rattle.llvm_core.specs.Edges.{Gains}
use Rattle.llvm_core.proofs.edges.push_all.Given as goal

abbrev pub invariant-loop-target : goal.invariant-loop-target
invariant-loop-target l = Gains l.initial.lists l.lists l.from (map (λ (b : LLVMBasicBlock). b.0) (take l.target-index l.targets))
