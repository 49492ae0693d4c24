-- The functions so far are added, and the types that the next ones need are there.
use Rattle.ll_bodies.proofs.FoldLaws.{Added}
use Rattle.ll_bodies.specs.Bits.{HasNeeded}
use Rattle.ll_bodies.proofs.adding.add_functions.Given as goal

abbrev pub invariant-loop-function : goal.invariant-loop-function
invariant-loop-function l = Added l.shared.bytes.now l.shared.table.now l.fn.module l.functions l.function-index l.module × HasNeeded l.module l.types.bit.0 l.types.void.0 l.types.bits
