-- What `value_tests::is_past_firsts` owes besides what the check finds.
use Rattle.dialect_core.proofs.FuncLemmas.{past_firsts_is}
use Rattle.dialect_core.proofs.value_tests.is_past_firsts.Goals as goal

pub returns : goal.returns
returns c = past_firsts_is c.args.ctx.now c.args.op c.op_successors.result.now c.are_past_firsts.result c.op_successors.ensures.successors c.are_past_firsts.ensures
