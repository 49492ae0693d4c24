-- What `rounding::end` owes besides what the check finds.
use Rattle.round_ll.specs.declared.stopped.Stopped.TheVariants as stop
use Rattle.round_ll.specs.Rounding.{TextCause}
use Rattle.round_ll.proofs.RoundingLaws.{rounds_of, printable, output_of, stopped_by}
use Rattle.round_ll.proofs.rounding.end.Goals as goal

pub finish-requires : goal.finish-requires
finish-requires c = record { begun = (c.requires.0, c.requires.3.begun) }

pub completed-requires : goal.completed-requires
completed-requires c =
    let m = c.requires.0 in
    let made = c.in_ok-transferred.ensures in
    printable m c.in_ok-transferred.transferred (made.same m c.requires.3.begun) made.back c.know_sound.ensures.sound made.form

pub returns-clause-rounds : goal.returns-clause-rounds
returns-clause-rounds c = λ m read numbered started text spelled.
    let t = c.in_ok-transferred.transferred in
    let made = c.in_ok-transferred.ensures in
    let done = c.in_ok-output.ensures in
    let all = output_of m _ t _ _ _ made.kept started (rw c.as_slice.ensures.value at done.ended) in
    rounds_of text m t _ _ done.modules read started.begun.held numbered spelled (made.same m started.begun) made.back made.readable all

pub returns-in_err-output-clause-cause : goal.returns-in_err-output-clause-cause
returns-in_err-output-clause-cause c = λ text. stopped_by c.from_residual-in_err-output.result stop.NoMemory (TextCause text) c.from_residual-in_err-output.ensures.1 tt
