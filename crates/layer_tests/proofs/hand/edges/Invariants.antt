-- So far each edge is to a block that is there, and passes a value that is.
use Rattle.std.proofs.Common.{All, length}
use Rattle.dialect_core.specs.ContextData.{IsSuccessorWithin}
use Rattle.layer_tests.proofs.hand.edges.Given as goal

abbrev pub invariant-loop-to : goal.invariant-loop-to
invariant-loop-to l = All (IsSuccessorWithin (length l.ctx.ops) (length l.ctx.blocks)) l.successors.items
