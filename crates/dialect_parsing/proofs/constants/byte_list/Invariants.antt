-- What was read of the list so far; each byte is a symbol.
use Rattle.std.proofs.Common.{length}
use Rattle.dialect_parsing.proofs.ConstantListLaws.{AreBytesSoFar}
use Rattle.dialect_parsing.proofs.constants.byte_list.Given as goal

abbrev pub invariant-loop-symbols : goal.invariant-loop-symbols
invariant-loop-symbols l = AreBytesSoFar l.fn.symbols l.found.items l.symbols

abbrev pub decreases-loop-symbols : goal.decreases-loop-symbols
decreases-loop-symbols l = length l.symbols
