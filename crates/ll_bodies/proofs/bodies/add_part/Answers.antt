-- What `bodies::add_part` owes besides what the check finds.
use Rattle.ll_bodies.specs.TypedViews.{IsTypedBody}
use Rattle.ll_bodies.proofs.KeptLaws.{all_push}
use Rattle.ll_bodies.proofs.BodyLaws.{one_extends, one_unmade}
use Rattle.ll_bodies.proofs.ErrLaws.{passed_on}
use Rattle.ll_bodies.proofs.bodies.add_part.Goals as goal

pub returns-in_ok-push-in-Does-clause-ok : goal.returns-in_ok-push-in-Does-clause-ok
returns-in_ok-push-in-Does-clause-ok c =
    let x = c.in_ok-inst-in-Does in
    rw c.in-Does.is (one_extends c.args.source.now c.args.scope.now c.in-Does.line c.args.made.now _ x.inst x.ensures.ok c.in_ok-push-in-Does.ensures.ok)

pub returns-in_ok-push-in-Does-clause-typed : goal.returns-in_ok-push-in-Does-clause-typed
returns-in_ok-push-in-Does-clause-typed c = λ h.
    let x = c.in_ok-inst-in-Does in
    rw c.in_ok-push-in-Does.ensures.ok (all_push (IsTypedBody c.args.source.now.module.now) c.args.made.now x.inst h x.ensures.typed)

pub returns-in_err-inst-in-Does-clause-not_yet : goal.returns-in_err-inst-in-Does-clause-not_yet
returns-in_err-inst-in-Does-clause-not_yet c = λ e n s knows.
    let x = c.in_err-inst-in-Does in
    let none = x.ensures.not_yet (passed_on c.from_residual.result x.field-0.0 c.from_residual.ensures.1 e) in
    rw c.in-Does.is (one_unmade c.args.source.now c.args.scope.now c.in-Does.line none n s knows)
