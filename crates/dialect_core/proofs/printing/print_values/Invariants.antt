-- What the loop of `printing::print_values` keeps.
use Rattle.dialect_core.specs.Numbering.{value_at, block_at}
use Rattle.dialect_core.specs.Text.{value_text}
use Rattle.dialect_core.proofs.PrintLemmas.{Joined}
use Rattle.dialect_core.proofs.printing.print_values.Given as goal

abbrev pub invariant-loop-i : goal.invariant-loop-i
invariant-loop-i l = Joined (value_text (value_at l.numbers) (block_at l.numbers)) l.values l.i l.initial.out.items l.out.items
