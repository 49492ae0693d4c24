-- What `laws::inserted_law` owes besides what the check finds.
use Rattle.meaning.proofs.InsertLaws.{inserted_term}
use Rattle.meaning.proofs.laws.inserted_law.Goals as goal

pub returns : goal.returns
returns c = inserted_term
