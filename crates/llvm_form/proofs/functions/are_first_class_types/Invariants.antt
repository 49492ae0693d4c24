-- What the loop of `functions::are_first_class_types` keeps.
use Rattle.std.proofs.Common.{◌≡◌, take, true}
use Rattle.std.specs.List.{list_all}
use Rattle.llvm_form.specs.Narrow.{is_first_class_type}
use Rattle.llvm_form.proofs.functions.are_first_class_types.Given as goal

abbrev pub invariant-loop-ty : goal.invariant-loop-ty
invariant-loop-ty l = list_all (is_first_class_type l.m) (take l.ty-index l.types) ≡ true
