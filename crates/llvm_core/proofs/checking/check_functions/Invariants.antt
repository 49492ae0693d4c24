-- What the loop of `checking::check_functions` keeps.
use Rattle.std.proofs.Common.{◌<◌, ℕ}
use Rattle.llvm_core.specs.Checked.{IsCheckedFunction}
use Rattle.llvm_core.proofs.checking.check_functions.Given as goal

abbrev pub invariant-loop-f : goal.invariant-loop-f
invariant-loop-f l = (k : ℕ) → k < l.f → IsCheckedFunction l.m k
