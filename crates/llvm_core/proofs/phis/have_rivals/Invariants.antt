-- What the loop of `phis::have_rivals` keeps.
use Rattle.std.proofs.Common.{◌≡◌, ◌<◌, ℕ, Some, slice_get}
use Rattle.llvm_core.specs.declared.code.PhiEntry.{PhiEntry}
use Rattle.llvm_core.specs.Checked.{HasRival}
use Rattle.llvm_core.proofs.phis.have_rivals.Given as goal

abbrev pub invariant-loop-entry : goal.invariant-loop-entry
invariant-loop-entry l = (i : ℕ) (x : PhiEntry) → i < l.entry-index → slice_get l.entries i ≡ Some x → ¬ HasRival x l.entries
