-- What `run::set` owes besides what the check finds.
use Rattle.std.proofs.Common.{refl}
use Rattle.tracing.proofs.RunLaws.{set_at}
use Rattle.tracing.proofs.run.set.Goals as goal

pub returns-clause-at : goal.returns-clause-at
returns-clause-at c = λ now. set_at now _ _ c.args.slot c.args.place refl refl refl refl c.in_ok-insert.ensures.updates.0
