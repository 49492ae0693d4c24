-- What the loop of `edges::check_firsts` keeps.
use Rattle.std.proofs.Common.{◌<◌, ℕ}
use Rattle.llvm_core.specs.declared.check_err.Place.TheVariants as P
use Rattle.llvm_core.specs.declared.check_err.CheckErr.TheVariants.{EntryHasPreds}
use Rattle.llvm_core.specs.Checked.{Fails}
use Rattle.llvm_core.proofs.edges.check_firsts.Given as goal

abbrev pub invariant-loop-f : goal.invariant-loop-f
invariant-loop-f l = (k : ℕ) → k < l.f → ¬ Fails l.m (EntryHasPreds (P.Function k))
