-- What holds in the loop of `run::straight`.
use Rattle.std.specs.Prelude.{All, map, take}
use Rattle.meaning.specs.Machine as M
use Rattle.meaning.specs.Machine.{State}
use Rattle.tracing.specs.Contents.{Contents}
use Rattle.tracing.specs.declared.body.Slot.{Slot}
use Rattle.tracing.specs.Bodies.{same_slot, row_of, IsKnownRow}
use Rattle.tracing.specs.Runs.{IsAt}
use Rattle.tracing.proofs.run.straight.Given as goal

abbrev pub invariant-loop-row : goal.invariant-loop-row
invariant-loop-row l = record {
  at : (now : Contents) (s : State Slot) → All (IsKnownRow now) l.rows → IsAt now l.fn.run s → IsAt now l.run (M.straight Slot same_slot s (map (row_of now) (take l.row-index l.rows)));
}
