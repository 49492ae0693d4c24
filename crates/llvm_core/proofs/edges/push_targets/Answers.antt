-- What `edges::push_targets` owes before the targets of a row are noted.
use Rattle.std.proofs.Common.{◌<◌, ℕ, length}
use Rattle.llvm_core.specs.declared.numbers.LLVMBasicBlock.{LLVMBasicBlock}
use Rattle.llvm_core.proofs.EdgeLemmas.{all_mapped}
use Rattle.llvm_core.proofs.edges.push_targets.Goals as goal

pub push_all-requires : goal.push_all-requires
push_all-requires c = rw c.as_slice.ensures (all_mapped (λ (n : ℕ). n < length c.args.lists.now) (λ (b : LLVMBasicBlock). b.0) c.in-Row.row.targets (rw c.in-Row.is at c.requires))
