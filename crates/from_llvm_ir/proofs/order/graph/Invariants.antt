-- What the loop of `order::graph` keeps.
use Rattle.std.proofs.Common.{◌≡◌, take}
use Rattle.llvm_core.specs.Data.{Function}
use Rattle.from_llvm_ir.specs.Graph.{ArePlacesOf}
use Rattle.from_llvm_ir.specs.Source.{IsSource}
use Rattle.from_llvm_ir.specs.Walks.{graph_of}
use Rattle.from_llvm_ir.proofs.order.graph.Given as goal

abbrev pub invariant-loop-block : goal.invariant-loop-block
invariant-loop-block l = (g : Function) → IsSource l.source l.fn.f g → ArePlacesOf g l.places → l.succs ≡ take l.block-index (graph_of g)
