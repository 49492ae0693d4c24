-- What holds in the loop of `run::set_inputs`.
use Rattle.meaning.specs.Machine as M
use Rattle.tracing.specs.Contents.{Contents}
use Rattle.tracing.specs.declared.body.Slot.{Slot}
use Rattle.tracing.specs.Bodies.{same_slot, start_of}
use Rattle.tracing.specs.Runs.{IsAt}
use Rattle.tracing.proofs.run.set_inputs.Given as goal

abbrev pub invariant-loop-place : goal.invariant-loop-place
invariant-loop-place l = record { at : (now : Contents) → IsAt now l.fn.run (M.begin Slot same_slot (start_of l.holder 0)) → IsAt now l.run (M.begin Slot same_slot (start_of l.holder l.place)) }
