-- The operands and what the edges so far pass are the function's.
use Rattle.std.proofs.Common.{◌≡◌, ◌++◌, Some, All, take}
use Rattle.std.specs.List.{flat_map}
use Rattle.dialect_types.specs.Trees.{type_trees}
use Rattle.dialect_core.specs.declared.ops.Successor.{Successor}
use Rattle.dialect_core.specs.Data.{DialectOp, op_at}
use Rattle.to_llvm_ir.specs.Own.{IsHeldBy}
use Rattle.to_llvm_ir.proofs.own.foreign_at.Given as goal

abbrev pub invariant-loop-edge : goal.invariant-loop-edge
invariant-loop-edge l = (o : DialectOp) → op_at (type_trees l.ctx.types) l.ctx.ops l.fn.op ≡ Some o → All (IsHeldBy l.ctx l.fn.func) (o.operands ++ flat_map (λ (s : Successor). s.args) (take l.edge-index o.successors))
