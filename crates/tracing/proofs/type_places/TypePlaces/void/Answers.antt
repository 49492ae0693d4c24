-- What `TypePlaces::void` owes besides what the check finds.
use Rattle.std.proofs.Common.{refl}
use Rattle.std.proofs.lemmas.Result.{on_ok_weaker}
use Rattle.tracing.proofs.GrowLaws.{table_grown}
use Rattle.tracing.proofs.type_places.TypePlaces.void.Goals as goal

pub returns-clause-grown : goal.returns-clause-grown
returns-clause-grown c = on_ok_weaker c.intern.result (λ kept source before. table_grown source _ _ refl kept before) c.intern.ensures.kept
