-- The operations so far are done.
use Rattle.std.proofs.Common.{ℕ}
use Rattle.dialect_core.specs.Data.{DialectBlock}
use Rattle.to_llvm_ir.specs.States.{Task, IsBegun, AreDone}
use Rattle.to_llvm_ir.proofs.OpsLaws.{count_to}
use Rattle.to_llvm_ir.proofs.operations.convert_ops.Given as goal

abbrev pub invariant-loop-op : goal.invariant-loop-op
invariant-loop-op l = (t : Task) (j : ℕ) (c : DialectBlock) → IsBegun l.ctx t j c l.ops l.blocks l.block l.fn.values l.fn.back → AreDone t j c (count_to l.ctx l.ops l.op-index) l.values l.back
