-- What `counting::number_blocks` owes besides what the check finds.
use Rattle.dialect_core.specs.Numbering.{values_of_block}
use Rattle.dialect_core.proofs.CountLemmas.{counts_block}
use Rattle.dialect_core.proofs.counting.number_blocks.Goals as goal

pub loop-place-preserved : goal.loop-place-preserved
loop-place-preserved c =
    counts_block (values_of_block c.args.ctx.now) _ c.loop-place.numbers c.number_block_name.new.numbers c.number_block.new.numbers c.loop-place.next c.in_ok-next.next c.args.blocks.now c.loop-place.place (record { 0 = 0 }) c.loop-place-test.true c.loop-place.invariant c.in_ok-number_block_name.ensures c.in_ok-next.ensures.numbered c.in_ok-next.ensures.next
