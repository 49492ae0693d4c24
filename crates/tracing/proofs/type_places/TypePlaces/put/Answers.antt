-- What `TypePlaces::put` owes besides what the check finds.
use Rattle.tracing.proofs.GrowLaws.{put_grown}
use Rattle.tracing.proofs.type_places.TypePlaces.put.Goals as goal

pub returns-clause-grown : goal.returns-clause-grown
returns-clause-grown c = λ source before is. put_grown source _ _ c.args.number c.in_ok-place.place _ c.in_ok-place.ensures.kept c.in_ok-place.ensures.stands c.in_ok-set.ensures before is
