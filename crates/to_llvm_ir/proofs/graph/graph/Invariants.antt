-- The rows of the blocks so far are there.
use Rattle.std.proofs.Common.{◌≡◌, take}
use Rattle.dialect_core.specs.Data.{Func}
use Rattle.to_llvm_ir.specs.Order.{graph_of}
use Rattle.to_llvm_ir.specs.Ordering.{AreBlocksOf}
use Rattle.to_llvm_ir.proofs.graph.graph.Given as goal

abbrev pub invariant-loop-block : goal.invariant-loop-block
invariant-loop-block l = (g : Func) → AreBlocksOf l.ctx g l.list → l.succs ≡ take l.block-index (graph_of g)
