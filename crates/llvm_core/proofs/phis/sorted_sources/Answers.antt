-- The goals of `phis::sorted_sources` at its loop and at its end.
use Rattle.std.proofs.lemmas.List.{take_all}
use Rattle.support.proofs.ListLaws.{mapped_next}
use Rattle.llvm_core.proofs.phis.sorted_sources.Goals as goal

pub loop-entry-preserved : goal.loop-entry-preserved
loop-entry-preserved c = mapped_next (λ e. e.block.0) c.args.entries.now c.loop-entry.entry-index _ c.loop-entry.from.items _ c.loop-entry-test.true c.loop-entry.invariant c.in_ok-push.ensures.items

pub returns-clause-same : goal.returns-clause-same
returns-clause-same c = rw (c.loop-entry.invariant, take_all c.loop-entry.entry-index c.args.entries.now c.loop-entry-test.false) at c.in_ok-sort.ensures.permutation
