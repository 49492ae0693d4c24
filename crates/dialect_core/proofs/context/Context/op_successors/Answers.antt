-- What `context::Context::op_successors` owes besides what the check finds.
use Rattle.dialect_core.proofs.ContextLemmas.{op_within}
use Rattle.dialect_core.proofs.context.Context.op_successors.Goals as goal

pub returns-clause-within : goal.returns-clause-within
returns-clause-within c =
    let there = rw (← c.self.view_is) at c.requires in
    rw (← c.self.view_is, c.as_slice.ensures)
    (op_within c.self.inside.ops.items c.self.inside.blocks.items c.self.inside.lists.parents c.self.inside.lists.lists c.args.op.0 c.index.result.now c.self.invariant.numbers there c.index.ensures).successors
