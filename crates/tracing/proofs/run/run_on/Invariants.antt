-- What holds in the loop of `run::run_on`.
use Rattle.std.specs.Prelude.{◌≡◌, All, drop}
use Rattle.meaning.specs.Machine as M
use Rattle.meaning.specs.Machine.{State}
use Rattle.tracing.specs.Contents.{Contents}
use Rattle.tracing.specs.declared.body.Slot.{Slot}
use Rattle.tracing.specs.Bodies.{same_slot, code_of, IsKnownBlock}
use Rattle.tracing.specs.Runs.{IsAt}
use Rattle.tracing.proofs.run.run_on.Given as goal

abbrev pub invariant-loop-choice : goal.invariant-loop-choice
invariant-loop-choice l = record {
  at : (now : Contents) (s : State Slot) → All (IsKnownBlock now) l.code.blocks → IsAt now l.fn.run s → (s' : State Slot) × IsAt now l.run s' × (M.run Slot same_slot (code_of now l.code.params l.code.blocks) (drop l.choice-index l.choices) s' ≡ M.run Slot same_slot (code_of now l.code.params l.code.blocks) l.choices s);
}
