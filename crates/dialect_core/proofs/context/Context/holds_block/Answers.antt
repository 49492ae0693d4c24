-- What `context::Context::holds_block` owes besides what the check finds.
use Rattle.std.proofs.Common.{ap}
use Rattle.dialect_core.specs.declared.numbers.OpRef.{OpRef}
use Rattle.dialect_core.proofs.ChainLemmas.{same_op}
use Rattle.dialect_core.proofs.TestLemmas.{true_same, same_true}
use Rattle.dialect_core.proofs.ContextLemmas.{context}
use Rattle.dialect_core.proofs.HoldLemmas.{held_block, block_held}
use Rattle.dialect_core.proofs.context.Context.holds_block.Goals as goal

pub returns : goal.returns
returns c =
    let holder = rw (← c.self.view_is) at c.block_holder.ensures.holder in
    rw (← c.self.view_is) (
      (λ same. held_block (context c.self.inside.types c.self.inside.ops.items c.self.inside.blocks.items c.self.inside.lists.parents c.self.inside.lists.lists) c.self.invariant c.args.block c.block_holder.result c.args.holder holder
          (same_op c.block_holder.result c.args.holder (true_same c.eq.result c.block_holder.result.0 c.args.holder.0 c.eq.ensures same))),
      (λ t. same_true c.eq.result c.block_holder.result.0 c.args.holder.0 c.eq.ensures (ap (λ (o : OpRef). o.0) (block_held (context c.self.inside.types c.self.inside.ops.items c.self.inside.blocks.items c.self.inside.lists.parents c.self.inside.lists.lists) c.self.invariant c.args.block c.block_holder.result c.args.holder holder t))),
    )
