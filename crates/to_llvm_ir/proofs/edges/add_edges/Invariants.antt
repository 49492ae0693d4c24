-- The blocks at the first places of the order have their entries, and their edges are not refused.
use Rattle.std.proofs.Common.{◌≡◌, ◌<◌, ℕ, Some, slice_get}
use Rattle.dialect_core.specs.Data.{DialectBlock}
use Rattle.to_llvm_ir.specs.Accepted.{AreAcceptedEdges}
use Rattle.to_llvm_ir.specs.Made.{no_entries}
use Rattle.to_llvm_ir.specs.Opening.{AreBlocks}
use Rattle.to_llvm_ir.specs.States.{Task, IsLinking, AreAllMapped}
use Rattle.to_llvm_ir.proofs.LinkedLaws.{entries_to}
use Rattle.to_llvm_ir.proofs.edges.add_edges.Given as goal

abbrev pub invariant-loop-place : goal.invariant-loop-place
invariant-loop-place l = record {
  state : (t : Task) → AreBlocks l.ctx t l.list → l.order ≡ t.numbers.order → AreAllMapped t l.blocks → IsLinking t no_entries l.values l.fn.back → IsLinking t (entries_to t l.place-index) l.values l.back;
  accepted : (t : Task) → AreBlocks l.ctx t l.list → l.order ≡ t.numbers.order → AreAllMapped t l.blocks → IsLinking t no_entries l.values l.fn.back → (k j : ℕ) (c : DialectBlock) → k < l.place-index → slice_get l.order k ≡ Some j → slice_get t.source.blocks j ≡ Some c → AreAcceptedEdges t.source c;
}
