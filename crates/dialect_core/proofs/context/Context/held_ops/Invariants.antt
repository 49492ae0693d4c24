-- What the loop of `context::Context::held_ops` keeps.
use Rattle.std.proofs.Common.{take}
use Rattle.dialect_core.proofs.HeldLemmas.{Held}
use Rattle.dialect_core.proofs.context.Context.held_ops.Given as goal

abbrev pub invariant-loop-block : goal.invariant-loop-block
invariant-loop-block l = Held l.self (take l.block-index l.block-items) l.held.items
