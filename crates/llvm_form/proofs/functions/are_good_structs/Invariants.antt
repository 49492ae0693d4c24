-- What the loop of `functions::are_good_structs` keeps.
use Rattle.std.proofs.Common.{◌≡◌, take, true}
use Rattle.std.specs.List.{list_all}
use Rattle.llvm_core.specs.Names.{is_good_name}
use Rattle.llvm_core.specs.Checked.{struct_names}
use Rattle.llvm_form.proofs.functions.are_good_structs.Given as goal

abbrev pub invariant-loop-s : goal.invariant-loop-s
invariant-loop-s l = list_all is_good_name (take l.s (struct_names l.m)) ≡ true
