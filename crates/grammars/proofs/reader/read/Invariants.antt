-- The tokens that were passed are taken.
use Rattle.std.proofs.Common.{take}
use Rattle.grammars.specs.Right.{Fits}
use Rattle.grammars.specs.FlatGrammar.{tables_of}
use Rattle.grammars.specs.Reading.{stack_of, IsBehind}
use Rattle.grammars.proofs.reader.read.Given as goal

abbrev pub invariant-loop-place : goal.invariant-loop-place
invariant-loop-place l = IsBehind l.grammar l.rule l.reader (take l.place l.tokens) × Fits (tables_of l.grammar) (stack_of l.reader)
