-- The operations so far use only what stands before them, and their results are noted.
use Rattle.std.proofs.Common.{◌++◌, List, map, take}
use Rattle.dialect_core.specs.declared.ops.Value.{Value}
use Rattle.to_llvm_ir.specs.Exported.{result}
use Rattle.to_llvm_ir.specs.Ordering.{AreSeen, HasUsesAmong, ops_of}
use Rattle.to_llvm_ir.proofs.order.are_ops_in_order.Given as goal

abbrev pub invariant-loop-op : goal.invariant-loop-op
invariant-loop-op l = (vs : List Value) → AreSeen l.fn.seen vs → HasUsesAmong vs (ops_of l.ctx (take l.op-index l.ops)) × AreSeen l.seen (vs ++ map result (ops_of l.ctx (take l.op-index l.ops)))
