-- What `context::Context::holds_op` owes besides what the check finds.
use Rattle.std.proofs.Common.{Some, ap, ◌∙◌}
use Rattle.dialect_core.proofs.ContextLemmas.{context}
use Rattle.dialect_core.proofs.TestLemmas.{no_true}
use Rattle.dialect_core.proofs.HoldLemmas.{held_op, op_held, op_free}
use Rattle.dialect_core.proofs.context.Context.holds_op.Goals as goal

pub returns-in-Some : goal.returns-in-Some
returns-in-Some c =
    let parent = rw (← c.self.view_is) at (c.parent_block.ensures.parent ∙ ap Some c.in-Some.is) in
    let holds = rw (← c.self.view_is) at c.holds_block.ensures in
    rw (← c.self.view_is) (
      (λ held. held_op (context c.self.inside.types c.self.inside.ops.items c.self.inside.blocks.items c.self.inside.lists.parents c.self.inside.lists.lists) c.self.invariant c.len-count.ensures.listed c.in-Some.block c.args.op c.args.holder parent (holds.0 held)),
      (λ t. holds.1 (op_held (context c.self.inside.types c.self.inside.ops.items c.self.inside.blocks.items c.self.inside.lists.parents c.self.inside.lists.lists) c.self.invariant c.in-Some.block c.args.op c.args.holder parent t)),
    )

pub returns-in-None : goal.returns-in-None
returns-in-None c =
    let parent = rw (← c.self.view_is) at (c.parent_block.ensures.parent ∙ ap Some c.in-None.is) in
    rw (← c.self.view_is)
    ((λ no. no_true no), (λ t. absurd (op_free (context c.self.inside.types c.self.inside.ops.items c.self.inside.blocks.items c.self.inside.lists.parents c.self.inside.lists.lists) c.self.invariant c.args.op c.args.holder parent t)))
