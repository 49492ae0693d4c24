-- What the loop of `checking::check_blocks` keeps.
use Rattle.std.proofs.Common.{◌<◌, ℕ}
use Rattle.llvm_core.specs.Checked.{IsCheckedBlock}
use Rattle.llvm_core.proofs.checking.check_blocks.Given as goal

abbrev pub invariant-loop-b : goal.invariant-loop-b
invariant-loop-b l = (k : ℕ) → k < l.b → IsCheckedBlock l.m k
