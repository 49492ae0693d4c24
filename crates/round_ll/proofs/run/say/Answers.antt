-- What `run::say` owes besides what the check finds.
use Rattle.round_ll.specs.Running.{Told}
use Rattle.round_ll.proofs.LineLaws.{said}
use Rattle.round_ll.proofs.run.say.Goals as goal

pub returns-then-not-is_empty-clause-line : goal.returns-then-not-is_empty-clause-line
returns-then-not-is_empty-clause-line g c =
    let start : Told = record { bytes = g.E.Sink.taken c.args.err.now; faults = g.E.Sink.faults c.args.err.now } in
    let end : Told = record { bytes = g.E.Sink.taken c.write_line.new.err; faults = g.E.Sink.faults c.write_line.new.err } in
    said c.args.ended.now start end c.head-head.result.now c.name.result.now c.head-head.ensures c.name.ensures c.if-not-is_empty.ensures c.write_line.ensures
