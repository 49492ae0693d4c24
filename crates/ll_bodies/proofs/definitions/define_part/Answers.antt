-- What `definitions::define_part` owes besides what the check finds.
use Rattle.ll_bodies.proofs.DefineLaws.{one_line, one_refused, one_added}
use Rattle.ll_bodies.proofs.ErrLaws.{passed_on, on_ok_any}
use Rattle.ll_bodies.proofs.definitions.define_part.Goals as goal

pub returns-in_err-define_result-in-Does-clause-not_yet : goal.returns-in_err-define_result-in-Does-clause-not_yet
returns-in_err-define_result-in-Does-clause-not_yet c = λ e.
    let x = c.in_err-define_result-in-Does in
    rw c.in-Does.is (one_refused c.args.source.now c.args.scope.now c.args.number c.in-Does.line (x.ensures.not_yet (passed_on c.from_residual.result x.field-0.0 c.from_residual.ensures.1 e)))

pub returns-in_ok-define_result-in-Does-clause-ok : goal.returns-in_ok-define_result-in-Does-clause-ok
returns-in_ok-define_result-in-Does-clause-ok c =
    on_ok_any c.next_number.result (rw c.in-Does.is (one_line c.args.source.now c.args.scope.now c.define_result.new.scope c.args.number c.in-Does.line c.in_ok-define_result-in-Does.ensures.ok))

pub returns-in_ok-define_result-in-Does-clause-adds : goal.returns-in_ok-define_result-in-Does-clause-adds
returns-in_ok-define_result-in-Does-clause-adds c =
    on_ok_any c.next_number.result (rw c.in-Does.is (one_added c.args.source.now c.args.scope.now c.define_result.new.scope c.args.number c.in-Does.line c.in_ok-define_result-in-Does.ensures.adds))
