-- What `context::Context::region` owes besides what the check finds.
use Rattle.dialect_core.proofs.ContextLemmas.{context}
use Rattle.dialect_core.proofs.HoldLemmas.{region_once, held_once, func_symbol, region_read}
use Rattle.dialect_core.proofs.context.Context.region.Goals as goal

pub returns-clause-once : goal.returns-clause-once
returns-clause-once c =
    let are = rw (← c.self.view_is) at c.op_blocks.ensures.blocks in
    let is = region_read c.self.inside.ops.items c.args.op.0 c.op_blocks.result.now are in
    rw is (region_once (context c.self.inside.types c.self.inside.ops.items c.self.inside.blocks.items c.self.inside.lists.parents c.self.inside.lists.lists) c.self.invariant c.args.op.0)

pub returns-clause-ops_once : goal.returns-clause-ops_once
returns-clause-ops_once c =
    rw (← c.self.view_is)
    (held_once (context c.self.inside.types c.self.inside.ops.items c.self.inside.blocks.items c.self.inside.lists.parents c.self.inside.lists.lists) c.self.invariant c.len-count.ensures.apart c.args.op.0)

pub returns-clause-symbols : goal.returns-clause-symbols
returns-clause-symbols c =
    rw (← c.self.view_is)
    (func_symbol (context c.self.inside.types c.self.inside.ops.items c.self.inside.blocks.items c.self.inside.lists.parents c.self.inside.lists.lists) c.self.invariant)
