-- What `phis::are_for` owes where each entry is for the block at its place.
use Rattle.std.proofs.Common.{arith}
use Rattle.std.proofs.lemmas.Option.{slice_get_within}
use Rattle.llvm_core.proofs.PhiLemmas.{sources_are}
use Rattle.llvm_core.proofs.phis.are_for.Goals as goal

pub returns : goal.returns
returns c = λ _.
    sources_are c.args.entries.now c.args.from.now (omega (arith, c.if-entries-from.false))
    (λ k e at. c.loop-place.invariant k e (omega (arith, slice_get_within c.args.entries.now k e at, c.loop-place-test.false)) at)
