-- What `context::Context::held_ops` owes besides what the check finds.
use Rattle.std.proofs.Common.{◌∙◌, arith}
use Rattle.dialect_core.proofs.HeldLemmas.{held_more, held_all}
use Rattle.dialect_core.proofs.context.Context.held_ops.Goals as goal

pub loop-block-preserved : goal.loop-block-preserved
loop-block-preserved c =
    held_more c.args.self.now c.op_blocks-block-items.result.now c.loop-block.block-index (record { 0 = 0 }) _ c.as_slice.result.now _
    (omega arith) c.loop-block.invariant (c.as_slice.ensures.value ∙ c.in_ok-ops.ensures.ops) (rw c.as_slice.ensures.value c.in_ok-ops.ensures.within) c.in_ok-extend_from_slice.ensures.items

pub returns-clause-ops : goal.returns-clause-ops
returns-clause-ops c = held_all c.args.self.now c.args.op.0 c.op_blocks-block-items.result.now c.loop-block.block-index _ (omega arith) c.op_blocks-block-items.ensures.blocks c.loop-block.invariant

pub returns-clause-within : goal.returns-clause-within
returns-clause-within c = c.loop-block.invariant.within
