-- The blocks so far have their places.
use Rattle.dialect_core.specs.ContextData.{ContextData}
use Rattle.dialect_core.specs.Data.{Func}
use Rattle.to_llvm_ir.specs.Ordering.{AreBlocksOf}
use Rattle.to_llvm_ir.proofs.GraphLaws.{ArePlacesTo}
use Rattle.to_llvm_ir.proofs.graph.places_of.Given as goal

abbrev pub invariant-loop-i : goal.invariant-loop-i
invariant-loop-i l = (c : ContextData) (g : Func) → AreBlocksOf c g l.list → ArePlacesTo g l.i l.places
