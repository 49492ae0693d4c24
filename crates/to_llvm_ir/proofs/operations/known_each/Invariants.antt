-- What stands for the operands so far.
use Rattle.std.proofs.Common.{◌≡◌, take}
use Rattle.llvm_core.specs.Module.{Module}
use Rattle.dialect_core.specs.declared.numbers.OpRef.{OpRef}
use Rattle.to_llvm_ir.specs.States.{Spot, IsNext, AreUses}
use Rattle.to_llvm_ir.proofs.operations.known_each.Given as goal

abbrev pub invariant-loop-operand : goal.invariant-loop-operand
invariant-loop-operand l = (s : Spot) (op : OpRef) (m : Module) → IsNext l.ctx op s l.values m → s.op.operands ≡ l.operands → AreUses s m (take l.operand-index l.operands) l.stand
