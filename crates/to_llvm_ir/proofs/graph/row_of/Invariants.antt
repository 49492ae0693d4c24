-- The places of the edges of the operations so far are there.
use Rattle.std.proofs.Common.{◌≡◌, take}
use Rattle.std.specs.List.{filter_map, flat_map}
use Rattle.dialect_core.specs.Data.{Func}
use Rattle.to_llvm_ir.specs.Ordering.{ArePlacesOf, ops_of}
use Rattle.to_llvm_ir.proofs.GraphLaws.{place_for, leads}
use Rattle.to_llvm_ir.proofs.graph.row_of.Given as goal

abbrev pub invariant-loop-op : goal.invariant-loop-op
invariant-loop-op l = (g : Func) → ArePlacesOf g l.places → l.row.items ≡ filter_map (place_for g) (flat_map leads (ops_of l.ctx (take l.op-index l.op-items)))
