-- One block more.
use Rattle.to_llvm_ir.proofs.GraphLaws.{places_none, places_more, places_all}
use Rattle.std.proofs.Common.{arith}
use Rattle.to_llvm_ir.proofs.graph.places_of.Goals as goal

pub loop-i-init : goal.loop-i-init
loop-i-init c = λ x g h. places_none g c.new-places.result c.new-places.ensures

pub loop-i-preserved : goal.loop-i-preserved
loop-i-preserved c = λ x g h.
    places_more x g c.args.list.now c.loop-i.i c.in_ok-place_of.field-0 _ c.loop-i.places c.set.new.self h c.loop-i-test.true c.in_ok-place_of.ensures c.in_ok-set.ensures (c.loop-i.invariant x g h)

pub returns : goal.returns
returns c = λ x g h. places_all x g c.args.list.now c.loop-i.i c.loop-i.places h (let e = c.loop-i-test.false in omega (arith, e)) (c.loop-i.invariant x g h)
