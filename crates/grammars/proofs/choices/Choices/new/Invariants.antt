-- The lines of the rows that were passed stand in the table.
use Rattle.grammars.specs.Lines.{chosen_at, AreLines}
use Rattle.grammars.proofs.choices.Choices.new.Given as goal

abbrev pub invariant-loop-row : goal.invariant-loop-row
invariant-loop-row l = AreLines l.classes l.row-index (chosen_at l.grammar.firsts.now l.grammar.alternatives.now l.grammar.rows.now) l.entries.items
