-- What the loop of `depths::check_insts` keeps.
use Rattle.std.proofs.Common.{◌<◌, ℕ}
use Rattle.llvm_core.specs.declared.check_err.Place.TheVariants as P
use Rattle.llvm_core.specs.declared.check_err.CheckErr.TheVariants.{TooDeep}
use Rattle.llvm_core.specs.Depths.{AreNotes}
use Rattle.llvm_core.specs.Checked.{Fails}
use Rattle.llvm_core.proofs.depths.check_insts.Given as goal

abbrev pub invariant-loop-i : goal.invariant-loop-i
invariant-loop-i l = record {
  passed : (k : ℕ) → k < l.i → ¬ Fails l.m (TooDeep (P.Inst k));
  notes : AreNotes l.m l.notes;
}
