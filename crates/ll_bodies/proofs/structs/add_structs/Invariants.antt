-- The structs so far are added.
use Rattle.ll_bodies.proofs.StructLaws.{Added}
use Rattle.ll_bodies.proofs.structs.add_structs.Given as goal

abbrev pub invariant-loop-said : goal.invariant-loop-said
invariant-loop-said l = Added l.bytes l.fn.module l.structs l.said-index l.module
