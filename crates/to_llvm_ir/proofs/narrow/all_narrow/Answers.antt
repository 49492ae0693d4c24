-- What `narrow::all_narrow` owes besides what the check finds.
use Rattle.std.proofs.Common.{arith}
use Rattle.dialect_core.proofs.TestLemmas.{all_more, fails, never}
use Rattle.to_llvm_ir.specs.Narrow.{IsNarrowBlockAt}
use Rattle.to_llvm_ir.proofs.narrow.all_narrow.Goals as goal

pub loop-block-preserved : goal.loop-block-preserved
loop-block-preserved c = all_more (IsNarrowBlockAt c.args.ctx.now) c.args.blocks.now c.loop-block.block-index _ c.loop-block.invariant (omega arith) (c.is_narrow_block.ensures.0 c.if-not-is_narrow_block.false)

pub returns-then-not-is_narrow_block : goal.returns-then-not-is_narrow_block
returns-then-not-is_narrow_block c = never (λ all. fails c.is_narrow_block.result c.is_narrow_block.ensures c.if-not-is_narrow_block.true (all c.loop-block.block-index _ (omega arith)))
