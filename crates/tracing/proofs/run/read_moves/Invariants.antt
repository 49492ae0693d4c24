-- What holds in the loop of `run::read_moves`.
use Rattle.std.specs.Prelude.{◌≡◌, All, length, take}
use Rattle.meaning.specs.Machine.{State}
use Rattle.tracing.specs.Contents.{Contents}
use Rattle.tracing.specs.declared.body.Slot.{Slot}
use Rattle.tracing.specs.Bodies.{moves_from, IsKnownGiven}
use Rattle.tracing.specs.Runs.{IsAt, AllNamed}
use Rattle.tracing.proofs.MoveLaws.{taken}
use Rattle.tracing.proofs.run.read_moves.Given as goal

abbrev pub invariant-loop-at : goal.invariant-loop-at
invariant-loop-at l = record {
  at : (now : Contents) (s : State Slot) → All (IsKnownGiven now) l.sources → IsAt now l.fn.run s → IsAt now l.run s × AllNamed now.types l.run.table l.places.items (taken s.env (moves_from now.terms 0 (take l.at l.params) l.sources));
  len : length l.places.items ≡ l.at;
}
