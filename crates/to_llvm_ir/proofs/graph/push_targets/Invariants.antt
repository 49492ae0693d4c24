-- The places of the edges so far are appended.
use Rattle.std.proofs.Common.{◌≡◌, ◌++◌, Some, take}
use Rattle.std.specs.List.{filter_map}
use Rattle.dialect_types.specs.Trees.{type_trees}
use Rattle.dialect_core.specs.Data.{DialectOp, Func, op_at}
use Rattle.to_llvm_ir.specs.Ordering.{ArePlacesOf}
use Rattle.to_llvm_ir.proofs.GraphLaws.{place_for}
use Rattle.to_llvm_ir.proofs.graph.push_targets.Given as goal

abbrev pub invariant-loop-edge : goal.invariant-loop-edge
invariant-loop-edge l = (g : Func) (o : DialectOp) → ArePlacesOf g l.places → op_at (type_trees l.ctx.types) l.ctx.ops l.fn.op ≡ Some o → l.row.items ≡ l.fn.row.items ++ filter_map (place_for g) (take l.edge-index o.successors)
