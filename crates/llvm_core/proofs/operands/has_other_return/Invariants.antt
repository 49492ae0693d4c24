-- What the loop of `operands::has_other_return` keeps.
use Rattle.std.proofs.Common.{◌≡◌, take, false}
use Rattle.std.specs.List.{list_any}
use Rattle.llvm_core.specs.Checked.{returns_other}
use Rattle.llvm_core.proofs.operands.has_other_return.Given as goal

abbrev pub invariant-loop-value : goal.invariant-loop-value
invariant-loop-value l = list_any (returns_other l.m l.f) (take l.value-index l.values) ≡ false
