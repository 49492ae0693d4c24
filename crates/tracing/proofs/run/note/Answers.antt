-- What `run::note` owes besides what the check finds.
use Rattle.std.proofs.Common.{refl}
use Rattle.tracing.proofs.RunLaws.{note_at}
use Rattle.tracing.proofs.run.note.Goals as goal

pub returns-clause-at : goal.returns-clause-at
returns-clause-at c = λ now. note_at now _ _ c.args.item refl refl refl refl c.in_ok-push.ensures.items
