-- What `few::block_has_few` owes besides what the check finds.
use Rattle.std.proofs.Common.{arith}
use Rattle.dialect_core.proofs.FewLemmas.{block_is}
use Rattle.dialect_core.proofs.few.block_has_few.Goals as goal

pub returns-then-holds_few : goal.returns-then-holds_few
returns-then-holds_few c = block_is c.args.ctx.now c.args.block c.block_args.result.now c.ops_use_few.result c.block_args.ensures (grind (arith, c.if-block_args-ge-TOO_LONG.false)) (c.holds_few.ensures.0 c.if-holds_few.true) c.ops_use_few.ensures
