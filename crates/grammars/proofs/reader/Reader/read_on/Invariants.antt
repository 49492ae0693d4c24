-- What is left and what was read tell what stood at first; each round takes a rule from the front.
use Rattle.grammars.specs.Right.{lead}
use Rattle.grammars.specs.FlatGrammar.{tables_of}
use Rattle.grammars.specs.Reading.{stack_from, class_ahead, with_next, IsOnTheWay}
use Rattle.grammars.proofs.reader.Reader.read_on.Given as goal

abbrev pub invariant-loop-top : goal.invariant-loop-top
invariant-loop-top l = IsOnTheWay l.grammar (class_ahead l.ahead.token) l.fn.self (with_next l.self l.next)

abbrev pub decreases-loop-top : goal.decreases-loop-top
decreases-loop-top l = lead (tables_of l.grammar) (stack_from l.next l.self.stack.items l.self.last)
