-- The operations so far have their entries.
use Rattle.std.proofs.Common.{ℕ}
use Rattle.dialect_core.specs.Data.{DialectBlock}
use Rattle.to_llvm_ir.specs.Links.{Given, IsBlockLinked}
use Rattle.to_llvm_ir.specs.States.{Task}
use Rattle.to_llvm_ir.proofs.OpsLaws.{count_to}
use Rattle.to_llvm_ir.proofs.LinkedLaws.{AreLinked}
use Rattle.to_llvm_ir.proofs.edges.add_block_edges.Given as goal

abbrev pub invariant-loop-op : goal.invariant-loop-op
invariant-loop-op l = (t : Task) (j : ℕ) (c : DialectBlock) (given : Given) → IsBlockLinked l.ctx t j c l.fn.block l.blocks given l.values l.fn.back → AreLinked t j c (count_to l.ctx l.op-items l.op-index) given l.values l.back
