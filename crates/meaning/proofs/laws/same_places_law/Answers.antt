-- What `laws::same_places_law` owes besides what the check finds.
use Rattle.meaning.proofs.Naming.{items_same}
use Rattle.meaning.proofs.laws.same_places_law.Goals as goal

pub returns : goal.returns
returns c = items_same
