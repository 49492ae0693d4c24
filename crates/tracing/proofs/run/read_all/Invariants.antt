-- What holds in the loop of `run::read_all`.
use Rattle.std.specs.Prelude.{All, map, take}
use Rattle.meaning.specs.Machine as M
use Rattle.meaning.specs.Machine.{State}
use Rattle.tracing.specs.Contents.{Contents}
use Rattle.tracing.specs.declared.body.Slot.{Slot}
use Rattle.tracing.specs.Bodies.{source_of, IsKnownSource}
use Rattle.tracing.specs.Runs.{IsAt, AllNamed}
use Rattle.tracing.proofs.run.read_all.Given as goal

abbrev pub invariant-loop-source : goal.invariant-loop-source
invariant-loop-source l = record {
  at : (now : Contents) (s : State Slot) → All (IsKnownSource now) l.sources → IsAt now l.fn.run s → IsAt now l.run s × AllNamed now.types l.run.table l.places.items (map (M.read s.env) (map (source_of now.terms) (take l.source-index l.sources)));
}
