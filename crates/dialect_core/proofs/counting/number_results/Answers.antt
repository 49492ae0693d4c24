-- What `counting::number_results` owes besides what the check finds.
use Rattle.dialect_core.specs.Numbering.{op_values}
use Rattle.dialect_core.proofs.NumberLemmas.{counts_more}
use Rattle.dialect_core.proofs.counting.number_results.Goals as goal

pub loop-op-preserved : goal.loop-op-preserved
loop-op-preserved c =
    counts_more (op_values c.args.ctx.now) _ c.loop-op.numbers c.number_result.new.numbers c.args.first c.loop-op.next c.in_ok-next.next c.args.ops.now c.loop-op.op-index (record { 0 = 0 }) c.loop-op-test.true c.loop-op.invariant c.in_ok-next.ensures.numbered c.in_ok-next.ensures.next
