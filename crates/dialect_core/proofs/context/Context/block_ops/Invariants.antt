-- What the loop of `context::Context::block_ops` keeps, and how it ends.
use Rattle.std.proofs.Common.{◌-◌, length}
use Rattle.dialect_core.specs.Lists.{list_at}
use Rattle.dialect_core.proofs.WalkLemmas.{Walked}
use Rattle.dialect_core.proofs.context.Context.block_ops.Given as goal

abbrev pub invariant-loop-next : goal.invariant-loop-next
invariant-loop-next l = Walked (list_at l.self.lists l.fn.block) l.ops.items l.next

abbrev pub decreases-loop-next : goal.decreases-loop-next
decreases-loop-next l = length (list_at l.self.lists l.fn.block) - length l.ops.items
