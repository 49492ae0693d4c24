-- A checked module has distinct names and short lists.
use Rattle.llvm_core.proofs.DistinctLaws.{distinct_of_checked, few_of_checked}
use Rattle.layer_tests.proofs.structs.is_printed.Goals as goal

pub print_ll-requires-clause-names : goal.print_ll-requires-clause-names
print_ll-requires-clause-names c = distinct_of_checked c.args.m.now c.requires.checked

pub print_ll-requires-clause-few : goal.print_ll-requires-clause-few
print_ll-requires-clause-few c = few_of_checked c.args.m.now c.requires.checked c.types-count.ensures.sound
