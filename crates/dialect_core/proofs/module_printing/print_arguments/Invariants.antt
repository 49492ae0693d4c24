-- What the loop of `module_printing::print_arguments` keeps.
use Rattle.dialect_types.specs.Trees.{type_trees}
use Rattle.dialect_core.specs.Numbering.{value_at, block_at}
use Rattle.dialect_core.proofs.ArgumentPrintLemmas.{Arguments}
use Rattle.dialect_core.proofs.module_printing.print_arguments.Given as goal

abbrev pub invariant-loop-i : goal.invariant-loop-i
invariant-loop-i l = Arguments (value_at l.numbers) (block_at l.numbers) (type_trees l.types) l.block l.args l.i l.initial.out.items l.out.items
