-- What `context::Context::is_first_block` owes besides what the check finds.
use Rattle.std.proofs.Common.{sym}
use Rattle.dialect_core.proofs.ContextLemmas.{context}
use Rattle.dialect_core.proofs.HoldLemmas.{first_is, never_first}
use Rattle.dialect_core.proofs.context.Context.is_first_block.Goals as goal

pub returns-in-Some : goal.returns-in-Some
returns-in-Some c =
    let holder = rw (← c.self.view_is) at c.block_holder.ensures.holder in
    let blocks = rw (← c.self.view_is) at c.op_blocks.ensures.blocks in
    rw (← c.self.view_is) (
    first_is (context c.self.inside.types c.self.inside.ops.items c.self.inside.blocks.items c.self.inside.lists.parents c.self.inside.lists.lists) c.self.invariant c.args.block c.block_holder.result c.op_blocks.result.now c.in-Some.first.now c.eq.result holder blocks (sym c.in-Some.ensures.value) c.eq.ensures
    )

pub returns-in-None : goal.returns-in-None
returns-in-None c =
    let holder = rw (← c.self.view_is) at c.block_holder.ensures.holder in
    let blocks = rw (← c.self.view_is) at c.op_blocks.ensures.blocks in
    rw (← c.self.view_is) (
    never_first (context c.self.inside.types c.self.inside.ops.items c.self.inside.blocks.items c.self.inside.lists.parents c.self.inside.lists.lists) c.self.invariant c.args.block c.block_holder.result c.op_blocks.result.now holder blocks (sym c.in-None.ensures.value)
    )
