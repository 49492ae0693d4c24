-- The blocks at the first places of the order are done.
use Rattle.std.proofs.Common.{◌≡◌, ◌<◌, ℕ, Some, slice_get}
use Rattle.dialect_core.specs.Data.{DialectBlock}
use Rattle.to_llvm_ir.specs.Bodies.{IsBlocksBegun, IsBodyAccepted}
use Rattle.to_llvm_ir.specs.Opening.{HasParams}
use Rattle.to_llvm_ir.specs.States.{Task, IsBetween}
use Rattle.to_llvm_ir.proofs.bodies.convert_blocks.Given as goal

abbrev pub invariant-loop-place : goal.invariant-loop-place
invariant-loop-place l = record {
  state : (t : Task) → IsBlocksBegun l.ctx t l.list l.order l.f l.blocks l.fn.back → IsBetween t l.place-index l.values l.back;
  params : (t : Task) (c : DialectBlock) → IsBlocksBegun l.ctx t l.list l.order l.f l.blocks l.fn.back → l.place-index ≡ 0 → slice_get t.source.blocks 0 ≡ Some c → HasParams t c l.f l.back;
  accepted : (t : Task) → IsBlocksBegun l.ctx t l.list l.order l.f l.blocks l.fn.back → (k j : ℕ) (c : DialectBlock) → k < l.place-index → slice_get l.order k ≡ Some j → slice_get t.source.blocks j ≡ Some c → IsBodyAccepted t.numbers.order t.source j c;
}
