-- What `few::blocks_have_few` owes besides what the check finds.
use Rattle.std.proofs.Common.{arith}
use Rattle.dialect_core.specs.WellFormed.{IsFewBlock}
use Rattle.dialect_core.proofs.TestLemmas.{all_more}
use Rattle.dialect_core.proofs.few.blocks_have_few.Goals as goal

pub loop-block-preserved : goal.loop-block-preserved
loop-block-preserved c = all_more (IsFewBlock c.args.ctx.now) c.args.blocks.now c.loop-block.block-index _ c.loop-block.invariant (omega arith) (c.block_has_few.ensures.0 c.if-not-block_has_few.false)
