-- The tokens that were passed are taken.
use Rattle.std.proofs.Common.{take}
use Rattle.grammars.specs.Right.{Fits}
use Rattle.grammars.specs.FlatGrammar.{tables_of}
use Rattle.grammars.specs.Reading.{stack_of, IsBehind}
use Rattle.ll_events.specs.Events.{seen}
use Rattle.ll_events.proofs.reading.events_of.Given as goal

abbrev pub invariant-loop-number : goal.invariant-loop-number
invariant-loop-number l = IsBehind l.grammar l.rule l.reader (take l.number (seen l.words l.bytes 0 l.tokens)) × Fits (tables_of l.grammar) (stack_of l.reader)
