-- The operations so far are the first of the block.
use Rattle.std.proofs.Common.{◌<◌, ◌-◌, All, length}
use Rattle.std.specs.Prelude.{IfSome}
use Rattle.dialect_core.specs.declared.numbers.OpRef.{OpRef}
use Rattle.dialect_core.specs.Lists.{list_at}
use Rattle.dialect_core.proofs.WalkLemmas.{Walked}
use Rattle.to_llvm_ir.proofs.listing.read_ops.Given as goal

abbrev pub invariant-loop-next : goal.invariant-loop-next
invariant-loop-next l = record {
  walked : Walked (list_at l.ctx.lists l.fn.block) l.ops.items l.next;
  within : IfSome l.next (λ (o : OpRef). o.0 < length l.ctx.ops);
  each : All (λ (o : OpRef). o.0 < length l.ctx.ops) l.ops.items;
}

abbrev pub decreases-loop-next : goal.decreases-loop-next
decreases-loop-next l = length (list_at l.ctx.lists l.fn.block) - length l.ops.items
