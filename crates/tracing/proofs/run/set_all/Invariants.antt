-- What holds in the loop of `run::set_all`.
use Rattle.std.specs.Prelude.{◌≡◌, List, take}
use Rattle.meaning.specs.Terms.{Term}
use Rattle.meaning.specs.Machine.{State}
use Rattle.tracing.specs.Contents.{Contents}
use Rattle.tracing.specs.declared.body.Slot.{Slot}
use Rattle.tracing.specs.Runs.{IsAt, AllNamed, with_each}
use Rattle.tracing.proofs.run.set_all.Given as goal

abbrev pub invariant-loop-at : goal.invariant-loop-at
invariant-loop-at l = record {
  table : l.run.table ≡ l.fn.run.table;
  at : (now : Contents) (s : State Slot) → (ts : List Term) → IsAt now l.fn.run s → AllNamed now.types l.fn.run.table l.places ts → IsAt now l.run (with_each s (take l.at l.slots) (take l.at ts));
}
