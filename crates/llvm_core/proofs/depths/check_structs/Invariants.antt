-- What the loop of `depths::check_structs` keeps.
use Rattle.std.proofs.Common.{◌<◌, ℕ}
use Rattle.llvm_core.specs.declared.check_err.Place.TheVariants as P
use Rattle.llvm_core.specs.declared.check_err.CheckErr.TheVariants.{TooDeep}
use Rattle.llvm_core.specs.Depths.{AreNotes}
use Rattle.llvm_core.specs.Checked.{Fails}
use Rattle.llvm_core.proofs.depths.check_structs.Given as goal

abbrev pub invariant-loop-s : goal.invariant-loop-s
invariant-loop-s l = record {
  passed : (k : ℕ) → k < l.s → ¬ Fails l.m (TooDeep (P.Struct k));
  notes : AreNotes l.m l.notes;
}
