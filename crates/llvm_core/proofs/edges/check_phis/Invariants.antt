-- What the loop of `edges::check_phis` keeps.
use Rattle.std.proofs.Common.{◌<◌, ℕ}
use Rattle.llvm_core.specs.declared.check_err.Place.TheVariants as P
use Rattle.llvm_core.specs.declared.check_err.CheckErr.TheVariants.{PhiEntries}
use Rattle.llvm_core.specs.Checked.{Fails}
use Rattle.llvm_core.proofs.edges.check_phis.Given as goal

abbrev pub invariant-loop-i : goal.invariant-loop-i
invariant-loop-i l = (k : ℕ) → k < l.i → ¬ Fails l.m (PhiEntries (P.Inst k))
