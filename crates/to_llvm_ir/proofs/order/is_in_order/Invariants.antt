-- The blocks so far are in order, and their values are noted.
use Rattle.std.proofs.Common.{◌≡◌, ◌<◌, ◌++◌, ℕ, Some, slice_get}
use Rattle.dialect_core.specs.Data.{DialectBlock, Func}
use Rattle.to_llvm_ir.specs.Exported.{arguments_of}
use Rattle.to_llvm_ir.specs.States.{seen_before}
use Rattle.to_llvm_ir.specs.Ordering.{AreBlocksOf, AreSeen, HasUsesAmong}
use Rattle.to_llvm_ir.proofs.order.is_in_order.Given as goal

abbrev pub invariant-loop-block : goal.invariant-loop-block
invariant-loop-block l = (g : Func) → AreBlocksOf l.ctx g l.list → AreSeen l.seen (seen_before g l.block-index) × ((j : ℕ) (c : DialectBlock) → j < l.block-index → slice_get g.blocks j ≡ Some c → HasUsesAmong (seen_before g j ++ arguments_of c) c.ops)
