-- What `laws::own_values_law` owes besides what the check finds.
use Rattle.meaning.proofs.OwnValueLaws.{own_body}
use Rattle.meaning.proofs.laws.own_values_law.Goals as goal

pub returns : goal.returns
returns c = own_body
