-- What `Tables::note` owes besides what the check finds.
use Rattle.std.proofs.Common.{refl}
use Rattle.std.proofs.lemmas.Result.{on_ok_weaker}
use Rattle.tracing.proofs.TablesLaws.{noted_grown}
use Rattle.tracing.proofs.tables.Tables.note.Goals as goal

pub returns-clause-grown : goal.returns-clause-grown
returns-clause-grown c = on_ok_weaker c.set.result (λ updates source h here. noted_grown source _ _ c.args.number c.args.place refl refl updates h here) c.set.ensures
