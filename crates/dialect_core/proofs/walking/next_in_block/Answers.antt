-- What `walking::next_in_block` owes besides what the check finds.
use Rattle.dialect_core.proofs.FromLemmas.{next_is}
use Rattle.dialect_core.proofs.walking.next_in_block.Goals as goal

pub returns-clause-rest : goal.returns-clause-rest
returns-clause-rest c = (next_is (record { parents = c.args.ctx.now.parents; lists = c.args.ctx.now.lists }) c.args.block c.args.op c.next_op.result c.first_op-first.ensures.apart c.first_op-first.ensures.standing c.requires.here c.next_op.ensures.next).0

pub returns-clause-head : goal.returns-clause-head
returns-clause-head c = (next_is (record { parents = c.args.ctx.now.parents; lists = c.args.ctx.now.lists }) c.args.block c.args.op c.next_op.result c.first_op-first.ensures.apart c.first_op-first.ensures.standing c.requires.here c.next_op.ensures.next).1
