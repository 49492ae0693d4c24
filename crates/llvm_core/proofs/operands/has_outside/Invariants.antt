-- What the loop of `operands::has_outside` keeps.
use Rattle.std.proofs.Common.{◌≡◌, take, false}
use Rattle.std.specs.List.{list_any}
use Rattle.llvm_core.specs.Checked.{is_outside}
use Rattle.llvm_core.proofs.operands.has_outside.Given as goal

abbrev pub invariant-loop-value : goal.invariant-loop-value
invariant-loop-value l = list_any (is_outside l.m l.f) (take l.value-index l.values) ≡ false
