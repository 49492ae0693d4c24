-- What the loop of `printing::print_successors` keeps.
use Rattle.dialect_core.specs.Numbering.{value_at, block_at}
use Rattle.dialect_core.specs.Text.{successor_text}
use Rattle.dialect_core.proofs.PrintLemmas.{Joined}
use Rattle.dialect_core.proofs.printing.print_successors.Given as goal

abbrev pub invariant-loop-i : goal.invariant-loop-i
invariant-loop-i l = Joined (successor_text (value_at l.numbers) (block_at l.numbers)) l.successors l.i l.initial.out.items l.out.items
