-- What `run::write_line` owes besides what the check finds.
use Rattle.std.proofs.Common.{◌≡◌, ◌∷◌, [], subst}
use Rattle.std.specs.Io.KnownBytes.{append_known}
use Rattle.round_ll.specs.Outside.AllBytes.{TookFront}
use Rattle.round_ll.specs.Running.{Told}
use Rattle.round_ll.proofs.LineLaws.{says_two, says_three, written}
use Rattle.round_ll.proofs.run.write_line.Goals as goal

pub returns-in_err-write_all-2 : goal.returns-in_err-write_all-2
returns-in_err-write_all-2 g c =
    let start : Told = record { bytes = g.E.Sink.taken c.args.err.now; faults = g.E.Sink.faults c.args.err.now } in
    let mid : Told = record { bytes = g.E.Sink.taken c.write_all.new.sink; faults = g.E.Sink.faults c.write_all.new.sink } in
    let end : Told = record { bytes = g.E.Sink.taken c.write_all-2.new.sink; faults = g.E.Sink.faults c.write_all-2.new.sink } in
    let first = subst (λ b. mid.bytes ≡ append_known start.bytes b) c.as_bytes.ensures.value c.in_ok-write_all.ensures.taken in
    let front = subst (TookFront mid.bytes end.bytes) c.as_bytes-2.ensures.value c.in_err-write_all-2.ensures.front in
    says_two start mid end c.args.head.now c.args.name.now (10 ∷ []) first c.write_all.ensures.cause.later front c.in_err-write_all-2.ensures.cause.failed

pub returns : goal.returns
returns g c =
    let start : Told = record { bytes = g.E.Sink.taken c.args.err.now; faults = g.E.Sink.faults c.args.err.now } in
    let mid : Told = record { bytes = g.E.Sink.taken c.write_all.new.sink; faults = g.E.Sink.faults c.write_all.new.sink } in
    let late : Told = record { bytes = g.E.Sink.taken c.write_all-2.new.sink; faults = g.E.Sink.faults c.write_all-2.new.sink } in
    let end : Told = record { bytes = g.E.Sink.taken c.write_all-3.new.sink; faults = g.E.Sink.faults c.write_all-3.new.sink } in
    let first = subst (λ b. mid.bytes ≡ append_known start.bytes b) c.as_bytes.ensures.value c.in_ok-write_all.ensures.taken in
    let second = subst (λ b. late.bytes ≡ append_known mid.bytes b) c.as_bytes-2.ensures.value c.in_ok-write_all-2.ensures.taken in
    says_three start mid late end c.args.head.now c.args.name.now (10 ∷ []) first c.write_all.ensures.cause.later second c.write_all-2.ensures.cause.later
    (written c.write_all-3.result late end (10 ∷ []) c.write_all-3.ensures.taken c.write_all-3.ensures.front c.write_all-3.ensures.cause)
