-- What `rounding::start` owes besides what the check finds.
use Rattle.round_ll.specs.declared.stopped.Stopped.TheVariants as stop
use Rattle.round_ll.specs.Rounding.{TextCause}
use Rattle.round_ll.specs.Stopping.{stop_of_transfer}
use Rattle.round_ll.proofs.RoundingLaws.{begun_named, refused_of, stopped_by}
use Rattle.round_ll.proofs.rounding.start.Goals as goal

pub report_of-requires : goal.report_of-requires
report_of-requires c = begun_named c.args.source c.in_ok-begun.begun c.in_ok-begun.ensures.begun

pub returns-in_err-begun-clause-cause : goal.returns-in_err-begun-clause-cause
returns-in_err-begun-clause-cause c = λ text spelled.
    let e = c.in_err-begun.field-0.0 in
    let cause = refused_of text c.args.source e c.requires.readable c.requires.numbered spelled c.in_err-begun.ensures.cause in
    stopped_by c.from_residual.result (stop_of_transfer e) (TextCause text) c.from_residual.ensures.1 cause

pub returns-in_err-report-clause-cause : goal.returns-in_err-report-clause-cause
returns-in_err-report-clause-cause c = λ text spelled. stopped_by c.from_residual-in_err-report.result stop.NoMemory (TextCause text) c.from_residual-in_err-report.ensures.1 tt

pub returns-in_err-text-clause-cause : goal.returns-in_err-text-clause-cause
returns-in_err-text-clause-cause c = λ text spelled. stopped_by c.from_residual-in_err-text.result stop.NoMemory (TextCause text) c.from_residual-in_err-text.ensures.1 tt
