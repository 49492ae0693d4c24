-- What `few::ops_use_few` owes besides what the check finds.
use Rattle.dialect_core.specs.Lists.{list_at}
use Rattle.dialect_core.specs.WellFormed.{IsFewOp}
use Rattle.dialect_core.proofs.FewLemmas.{all_fails, all_ends}
use Rattle.dialect_core.proofs.TestLemmas.{fails}
use Rattle.dialect_core.proofs.few.ops_use_few.Goals as goal

pub returns-then-not-uses_few : goal.returns-then-not-uses_few
returns-then-not-uses_few c = all_fails (IsFewOp c.args.ctx.now) (list_at c.args.ctx.now.lists c.args.block) c.loop-next.next c.in-Some.op c.next_in_block-after.result c.loop-next.invariant.1 c.in-Some.is c.next_in_block-after.ensures.rest (fails c.uses_few.result c.uses_few.ensures c.if-not-uses_few.true)

pub returns : goal.returns
returns c = all_ends (IsFewOp c.args.ctx.now) (list_at c.args.ctx.now.lists c.args.block) c.loop-next.next c.loop-next.invariant.1 c.in_default.is
