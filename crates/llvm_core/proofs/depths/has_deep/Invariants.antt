-- What the loop of `depths::has_deep` keeps.
use Rattle.std.proofs.Common.{◌≡◌, ◌<◌, false}
use Rattle.llvm_core.specs.declared.numbers.LLVMType.{LLVMType}
use Rattle.llvm_core.specs.Depths.{AreNotes}
use Rattle.llvm_core.specs.Checked.{is_deep}
use Rattle.llvm_core.proofs.depths.has_deep.Given as goal

abbrev pub invariant-loop-t : goal.invariant-loop-t
invariant-loop-t l = record {
  none : (u : LLVMType) → u.0 < l.t → is_deep l.m u ≡ false;
  notes : AreNotes l.m l.notes;
}
