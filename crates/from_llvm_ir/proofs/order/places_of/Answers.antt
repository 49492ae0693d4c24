-- What `order::places_of` owes besides what the check finds.
use Rattle.std.proofs.Common.{length, subst, sym}
use Rattle.std.proofs.lemmas.Result.{IfOk-weaker}
use Rattle.from_llvm_ir.specs.Match.{IsPlaces}
use Rattle.from_llvm_ir.specs.Order.{IsInverse}
use Rattle.from_llvm_ir.proofs.OrderLaws.{self_inverse}
use Rattle.from_llvm_ir.proofs.order.places_of.Goals as goal

pub returns-then-order-eq1-clause-places : goal.returns-then-order-eq1-clause-places
returns-then-order-eq1-clause-places c =
    let order = c.args.order.now in
    IfOk-weaker c.from_slice.result _ _ (λ l is. subst (IsPlaces (length order)) (sym is) c.requires) c.from_slice.ensures

pub returns-then-order-eq1-clause-inverse : goal.returns-then-order-eq1-clause-inverse
returns-then-order-eq1-clause-inverse c =
    let order = c.args.order.now in
    IfOk-weaker c.from_slice.result _ _ (λ l is. subst (IsInverse order) (sym is) (self_inverse order c.requires c.if-order-eq1.true)) c.from_slice.ensures
