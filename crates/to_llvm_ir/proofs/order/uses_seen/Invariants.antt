-- The operands and what the edges so far pass are noted.
use Rattle.std.proofs.Common.{◌≡◌, ◌++◌, true, Some, All, take}
use Rattle.std.specs.List.{flat_map}
use Rattle.dialect_types.specs.Trees.{type_trees}
use Rattle.dialect_core.specs.declared.ops.Value.{Value}
use Rattle.dialect_core.specs.declared.ops.Successor.{Successor}
use Rattle.dialect_core.specs.Data.{DialectOp, op_at}
use Rattle.to_llvm_ir.specs.Ordering.{is_seen}
use Rattle.to_llvm_ir.proofs.order.uses_seen.Given as goal

abbrev pub invariant-loop-edge : goal.invariant-loop-edge
invariant-loop-edge l = (o : DialectOp) → op_at (type_trees l.ctx.types) l.ctx.ops l.fn.op ≡ Some o → All (λ (v : Value). is_seen l.seen v ≡ true) (o.operands ++ flat_map (λ (s : Successor). s.args) (take l.edge-index o.successors))
