-- What `order::turned` owes besides what the check finds.
use Rattle.std.proofs.Common.{length, arith}
use Rattle.std.proofs.lemmas.Option.{slice_get_within}
use Rattle.from_llvm_ir.proofs.OrderLaws.{inverse_places}
use Rattle.from_llvm_ir.proofs.order.turned.Goals as goal

pub returns-clause-inverse : goal.returns-clause-inverse
returns-clause-inverse c = λ j i at.
    let lt = slice_get_within c.args.order.now j i at in
    c.loop-j.invariant.turned j i (omega (arith, lt)) at

pub returns-clause-places : goal.returns-clause-places
returns-clause-places c =
    inverse_places (length c.args.order.now) c.args.order.now c.loop-j.places.items c.requires (λ j i at. let lt = slice_get_within c.args.order.now j i at in c.loop-j.invariant.turned j i (omega (arith, lt)) at) c.loop-j.invariant.long
