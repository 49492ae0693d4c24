-- What the loop of `checking::has_terminator` keeps.
use Rattle.std.proofs.Common.{◌≡◌, take, false}
use Rattle.std.specs.List.{list_any}
use Rattle.llvm_core.specs.Checked.{is_terminator_at}
use Rattle.llvm_core.proofs.checking.has_terminator.Given as goal

abbrev pub invariant-loop-inst : goal.invariant-loop-inst
invariant-loop-inst l = list_any (is_terminator_at l.m) (take l.inst-index l.insts) ≡ false
