-- The operations so far are counted.
use Rattle.std.proofs.Common.{◌≡◌, take}
use Rattle.to_llvm_ir.specs.Made.{number_behind}
use Rattle.to_llvm_ir.specs.Ordering.{ops_of}
use Rattle.to_llvm_ir.proofs.numbering.number_behind.Given as goal

abbrev pub invariant-loop-op : goal.invariant-loop-op
invariant-loop-op l = l.next ≡ number_behind l.fn.first (ops_of l.ctx (take l.op-index l.ops))
