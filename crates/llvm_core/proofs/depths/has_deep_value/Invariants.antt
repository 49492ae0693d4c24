-- What the loop of `depths::has_deep_value` keeps.
use Rattle.std.proofs.Common.{◌≡◌, take, false}
use Rattle.std.specs.List.{list_any}
use Rattle.llvm_core.specs.Depths.{AreNotes}
use Rattle.llvm_core.specs.Checked.{is_deep_value}
use Rattle.llvm_core.proofs.depths.has_deep_value.Given as goal

abbrev pub invariant-loop-value : goal.invariant-loop-value
invariant-loop-value l = record {
  none : list_any (is_deep_value l.m) (take l.value-index l.values) ≡ false;
  notes : AreNotes l.m l.notes;
}
