-- What the loop of `checking::check_insts` keeps.
use Rattle.std.proofs.Common.{◌<◌, ℕ}
use Rattle.llvm_core.specs.Checked.{IsCheckedInst}
use Rattle.llvm_core.proofs.checking.check_insts.Given as goal

abbrev pub invariant-loop-i : goal.invariant-loop-i
invariant-loop-i l = (k : ℕ) → k < l.i → IsCheckedInst l.m k
