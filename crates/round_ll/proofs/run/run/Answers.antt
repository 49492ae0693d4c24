-- Bytes that spell a module are taken, since every answer has its cause.
use Rattle.std.proofs.Common.{rules, map, string_bytes}
use Rattle.round_ll.specs.Commands.{command_of}
use Rattle.round_ll.specs.Running.{Told, RunEnded}
use Rattle.round_ll.proofs.RunLaws.{takes_spelled}
use Rattle.round_ll.proofs.run.run.Goals as goal

pub returns-clause-taken : goal.returns-clause-taken
returns-clause-taken g c =
    let command = command_of (map (λ w. string_bytes w) c.args.words.now) in
    let before : Told = record { bytes = g.S.Source.left c.args.source.now; faults = g.S.Source.faults c.args.source.now } in
    let after : Told = record { bytes = g.S.Source.left c.match-of.source; faults = g.S.Source.faults c.match-of.source } in
    let empty : Told = record { bytes = g.O.Sink.taken c.args.out.now; faults = g.O.Sink.faults c.args.out.now } in
    let full : Told = record { bytes = g.O.Sink.taken c.match-of.out; faults = g.O.Sink.faults c.match-of.out } in
    let ended : RunEnded command before after empty full c.match-of.ended = search rules in
    takes_spelled command before after empty full c.match-of.ended ended
