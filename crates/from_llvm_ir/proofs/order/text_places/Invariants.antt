-- What the loop of `order::text_places` keeps.
use Rattle.from_llvm_ir.proofs.GraphLaws.{ArePlacesTo}
use Rattle.from_llvm_ir.proofs.order.text_places.Given as goal

abbrev pub invariant-loop-i : goal.invariant-loop-i
invariant-loop-i l = ArePlacesTo l.blocks l.i l.places
