-- What the loop of `counting::number_arguments` keeps.
use Rattle.std.proofs.Common.{take, []}
use Rattle.dialect_core.specs.Text.{arguments_from}
use Rattle.dialect_core.proofs.NumberLemmas.{Counts}
use Rattle.dialect_core.proofs.counting.number_arguments.Given as goal

abbrev pub invariant-loop-i : goal.invariant-loop-i
invariant-loop-i l = Counts l.initial.numbers l.numbers l.fn.first l.next (arguments_from l.block 0 (take l.i l.args)) []
