-- What the loop of `operands::has_entry_outside` keeps.
use Rattle.std.proofs.Common.{◌≡◌, take, false}
use Rattle.std.specs.List.{list_any}
use Rattle.llvm_core.specs.Checked.{is_entry_outside}
use Rattle.llvm_core.proofs.operands.has_entry_outside.Given as goal

abbrev pub invariant-loop-entry : goal.invariant-loop-entry
invariant-loop-entry l = list_any (is_entry_outside l.m l.f) (take l.entry-index l.entries) ≡ false
