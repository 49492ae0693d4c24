-- What the loop of `functions::are_narrow_values` keeps.
use Rattle.std.proofs.Common.{◌≡◌, take, true}
use Rattle.std.specs.List.{list_all}
use Rattle.llvm_form.specs.Narrow.{is_narrow_value}
use Rattle.llvm_form.proofs.functions.are_narrow_values.Given as goal

abbrev pub invariant-loop-value : goal.invariant-loop-value
invariant-loop-value l = list_all (is_narrow_value l.m) (take l.value-index l.values) ≡ true
