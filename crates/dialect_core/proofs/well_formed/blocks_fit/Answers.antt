-- What `well_formed::blocks_fit` owes besides what the check finds.
use Rattle.std.proofs.Common.{arith}
use Rattle.dialect_core.specs.Checking.{IsBlockAt, func_at}
use Rattle.dialect_core.proofs.TestLemmas.{all_more}
use Rattle.dialect_core.proofs.well_formed.blocks_fit.Goals as goal

pub loop-block-preserved : goal.loop-block-preserved
loop-block-preserved c = all_more (IsBlockAt c.args.ctx.now (func_at c.args.ctx.now c.args.func)) c.args.blocks.now c.loop-block.block-index _ c.loop-block.invariant (omega arith) (c.block_fits.ensures.0 c.if-not-block_fits.false)
