-- What `instructions::instruction` owes besides what the check finds.
use Rattle.std.proofs.lemmas.Result.{IfOk-weaker}
use Rattle.ll_bodies.proofs.InstructionLaws.{phi_made, phi_unmade}
use Rattle.ll_bodies.proofs.ErrLaws.{passed_on}
use Rattle.ll_bodies.proofs.instructions.instruction.Goals as goal

pub returns-in_ok-made-in-Phi-clause-ok : goal.returns-in_ok-made-in-Phi-clause-ok
returns-in_ok-made-in-Phi-clause-ok c = λ s knows.
    let a = rw c.as_slice.ensures at (c.in_ok-made-in-Phi.ensures.ok s knows) in
    rw c.in-Phi.is (phi_made c.args.source.now s c.in-Phi.ty c.in-Phi.said c.in_ok-made-in-Phi.made a)

pub returns-in_err-made-in-Phi-clause-not_yet : goal.returns-in_err-made-in-Phi-clause-not_yet
returns-in_err-made-in-Phi-clause-not_yet c = λ e s knows.
    let x = c.in_err-made-in-Phi in
    let none = rw c.as_slice.ensures at (x.ensures.not_yet (passed_on c.from_residual.result x.field-0.0 c.from_residual.ensures.1 e) s knows) in
    rw c.in-Phi.is (phi_unmade c.args.source.now s c.in-Phi.ty c.in-Phi.said none)

pub returns-in-Row-clause-ok : goal.returns-in-Row-clause-ok
returns-in-Row-clause-ok c = IfOk-weaker c.row.result _ _ (λ i h s knows. rw c.in-Row.is (h s knows)) c.row.ensures.ok

pub returns-in-Row-clause-not_yet : goal.returns-in-Row-clause-not_yet
returns-in-Row-clause-not_yet c = λ e s knows. rw c.in-Row.is (c.row.ensures.not_yet e s knows)
