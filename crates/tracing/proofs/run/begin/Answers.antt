-- What `run::begin` owes besides what the check finds.
use Rattle.std.proofs.Common.{List, length, refl}
use Rattle.support.proofs.ResultLaws.{handed_on}
use Rattle.llvm_core.specs.Data.{TypeTree}
use Rattle.meaning.specs.Machine as M
use Rattle.tracing.specs.Table.{AreTyped}
use Rattle.tracing.specs.Contents.{over}
use Rattle.tracing.specs.declared.body.Slot.{Slot}
use Rattle.tracing.specs.Bodies.{same_slot, start_of}
use Rattle.tracing.specs.Runs.{IsAt}
use Rattle.tracing.proofs.MoveLaws.{begun}
use Rattle.tracing.proofs.run.begin.Goals as goal

pub returns : goal.returns
returns c =
    rw c.and.ensures
    (handed_on c.set_inputs.result c.set_inputs.new.run (λ r. (trees : List TypeTree) → AreTyped (length trees) c.args.terms → IsAt (over trees c.args.terms) r (M.begin Slot same_slot (start_of c.args.holder c.args.inputs))) _
    (λ f trees typed. f (over trees c.args.terms) (begun trees c.args.terms _ c.args.holder refl refl refl c.new.ensures.empty c.new-2.ensures.items typed)) c.set_inputs.ensures)
