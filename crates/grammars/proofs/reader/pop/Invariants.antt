-- What stands next stays the same; each round takes what is left of an alternative from the stack.
use Rattle.std.proofs.Common.{◌≡◌, length}
use Rattle.grammars.specs.Reading.{stack_from}
use Rattle.grammars.proofs.reader.pop.Given as goal

abbrev pub invariant-loop-first : goal.invariant-loop-first
invariant-loop-first l = stack_from l.next.now l.stack.items l.last ≡ stack_from l.initial.next.now l.initial.stack.items l.initial.last

abbrev pub decreases-loop-first : goal.decreases-loop-first
decreases-loop-first l = length l.stack.items
