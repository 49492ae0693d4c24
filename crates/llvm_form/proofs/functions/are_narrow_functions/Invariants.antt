-- What the loop of `functions::are_narrow_functions` keeps.
use Rattle.std.proofs.Common.{◌≡◌, take, true}
use Rattle.std.specs.List.{list_all}
use Rattle.llvm_form.specs.Narrow.{is_narrow_function_data}
use Rattle.llvm_form.proofs.functions.are_narrow_functions.Given as goal

abbrev pub invariant-loop-f : goal.invariant-loop-f
invariant-loop-f l = list_all (is_narrow_function_data l.m) (take l.f l.m.functions) ≡ true
