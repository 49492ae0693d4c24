-- What `hand::edges` owes besides what the check finds: one edge more, or none where there is no memory.
use Rattle.std.proofs.Common.{length}
use Rattle.dialect_core.specs.ContextData.{IsSuccessorWithin}
use Rattle.layer_tests.proofs.HandLaws.{all_if_pushed}
use Rattle.layer_tests.proofs.hand.edges.Goals as goal

pub loop-to-preserved : goal.loop-to-preserved
loop-to-preserved c =
    rw c.push.ensures.items
    (all_if_pushed (IsSuccessorWithin (length c.args.ctx.now.ops) (length c.args.ctx.now.blocks)) _ _ _ c.loop-to.invariant c.in_ok-successor.ensures)
