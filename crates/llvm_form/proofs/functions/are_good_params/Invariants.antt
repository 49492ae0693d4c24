-- What the loop of `functions::are_good_params` keeps.
use Rattle.std.proofs.Common.{◌≡◌, take, true}
use Rattle.std.specs.List.{list_all}
use Rattle.llvm_core.specs.Code.{param_names}
use Rattle.llvm_form.specs.Narrow.{is_good_or_none}
use Rattle.llvm_form.proofs.functions.are_good_params.Given as goal

abbrev pub invariant-loop-place : goal.invariant-loop-place
invariant-loop-place l = list_all is_good_or_none (take l.place (param_names l.m.functions l.f)) ≡ true
