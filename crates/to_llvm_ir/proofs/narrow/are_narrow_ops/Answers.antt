-- What `narrow::are_narrow_ops` owes besides what the check finds.
use Rattle.dialect_core.specs.Lists.{list_at}
use Rattle.dialect_core.proofs.FewLemmas.{all_ends, all_fails}
use Rattle.dialect_core.proofs.TestLemmas.{fails}
use Rattle.to_llvm_ir.specs.Narrow.{IsNarrowAt}
use Rattle.to_llvm_ir.proofs.narrow.are_narrow_ops.Goals as goal

pub returns-then-not-is_narrow_op : goal.returns-then-not-is_narrow_op
returns-then-not-is_narrow_op c = all_fails (IsNarrowAt c.args.ctx.now) (list_at c.args.ctx.now.lists c.args.block) c.loop-next.next c.in-Some.op c.next_in_block-after.result c.loop-next.invariant.1 c.in-Some.is c.next_in_block-after.ensures.rest (fails c.is_narrow_op.result c.is_narrow_op.ensures c.if-not-is_narrow_op.true)

pub returns : goal.returns
returns c = all_ends (IsNarrowAt c.args.ctx.now) (list_at c.args.ctx.now.lists c.args.block) c.loop-next.next c.loop-next.invariant.1 c.in_default.is
