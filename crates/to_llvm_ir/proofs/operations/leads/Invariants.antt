-- The blocks that the edges so far lead to.
use Rattle.std.proofs.Common.{◌≡◌, take}
use Rattle.llvm_core.specs.Module.{Module}
use Rattle.dialect_core.specs.declared.numbers.OpRef.{OpRef}
use Rattle.meaning.specs.Pairs.{Matched}
use Rattle.to_llvm_ir.specs.States.{Spot, IsNext, IsLead, AreAllMapped}
use Rattle.to_llvm_ir.proofs.operations.leads.Given as goal

abbrev pub invariant-loop-edge : goal.invariant-loop-edge
invariant-loop-edge l = (s : Spot) (op : OpRef) (m : Module) → IsNext l.ctx op s l.values m → AreAllMapped s.task l.blocks → s.op.successors ≡ l.edges → Matched (IsLead s m) (take l.edge-index l.edges) l.targets
