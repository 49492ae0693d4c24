-- What `bodies::body_block` owes besides what the check finds.
use Rattle.ll_bodies.proofs.ErrLaws.{passed_on}
use Rattle.ll_bodies.proofs.bodies.body_block.Goals as goal

pub returns-in_err-insts-clause-not_yet : goal.returns-in_err-insts-clause-not_yet
returns-in_err-insts-clause-not_yet c = λ e n s knows.
    let x = c.in_err-insts in
    let f = c.from_residual-in_err-insts in
    x.ensures.not_yet (passed_on f.result x.field-0.0 f.ensures.1 e) n s knows
