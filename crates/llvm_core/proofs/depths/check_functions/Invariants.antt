-- What the loop of `depths::check_functions` keeps.
use Rattle.std.proofs.Common.{◌<◌, ℕ}
use Rattle.llvm_core.specs.declared.check_err.Place.TheVariants as P
use Rattle.llvm_core.specs.declared.check_err.CheckErr.TheVariants.{TooDeep}
use Rattle.llvm_core.specs.Depths.{AreNotes}
use Rattle.llvm_core.specs.Checked.{Fails}
use Rattle.llvm_core.proofs.depths.check_functions.Given as goal

abbrev pub invariant-loop-f : goal.invariant-loop-f
invariant-loop-f l = record {
  passed : (k : ℕ) → k < l.f → ¬ Fails l.m (TooDeep (P.Function k));
  notes : AreNotes l.m l.notes;
}
