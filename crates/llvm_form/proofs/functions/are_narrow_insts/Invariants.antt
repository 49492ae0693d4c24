-- What the loop of `functions::are_narrow_insts` keeps.
use Rattle.std.proofs.Common.{◌≡◌, take, true}
use Rattle.std.specs.List.{list_all}
use Rattle.llvm_form.specs.Narrow.{is_narrow_inst}
use Rattle.llvm_form.proofs.functions.are_narrow_insts.Given as goal

abbrev pub invariant-loop-inst : goal.invariant-loop-inst
invariant-loop-inst l = list_all (is_narrow_inst l.m) (take l.inst-index l.insts) ≡ true
