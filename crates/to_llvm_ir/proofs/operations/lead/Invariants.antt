-- The values so far stand before.
use Rattle.std.proofs.Common.{◌≡◌, ℕ, Some, All, take, slice_get}
use Rattle.llvm_core.specs.Module.{Module}
use Rattle.dialect_core.specs.declared.numbers.OpRef.{OpRef}
use Rattle.to_llvm_ir.specs.Order.{StandsBeforeIn}
use Rattle.to_llvm_ir.specs.States.{Spot, IsNext}
use Rattle.to_llvm_ir.proofs.operations.lead.Given as goal

abbrev pub invariant-loop-value : goal.invariant-loop-value
invariant-loop-value l = (s : Spot) (op : OpRef) (m : Module) (i : ℕ) → IsNext l.ctx op s l.values m → slice_get s.op.successors i ≡ Some l.edge → All (StandsBeforeIn s.task.numbers.order s.task.source s.place s.at) (take l.value-index l.edge.args)
