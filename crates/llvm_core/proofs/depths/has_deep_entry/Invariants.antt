-- What the loop of `depths::has_deep_entry` keeps.
use Rattle.std.proofs.Common.{◌≡◌, take, false}
use Rattle.std.specs.List.{list_any}
use Rattle.llvm_core.specs.declared.code.PhiEntry.{PhiEntry}
use Rattle.llvm_core.specs.Depths.{AreNotes}
use Rattle.llvm_core.specs.Checked.{is_deep_value}
use Rattle.llvm_core.proofs.depths.has_deep_entry.Given as goal

abbrev pub invariant-loop-entry : goal.invariant-loop-entry
invariant-loop-entry l = record {
  none : list_any (λ (e : PhiEntry). is_deep_value l.m e.value) (take l.entry-index l.entries) ≡ false;
  notes : AreNotes l.m l.notes;
}
