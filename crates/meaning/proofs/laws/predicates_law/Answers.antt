-- What `laws::predicates_law` owes besides what the check finds.
use Rattle.meaning.proofs.PredicateLaws.{one_to_one, onto}
use Rattle.meaning.proofs.laws.predicates_law.Goals as goal

pub returns-clause-one_to_one : goal.returns-clause-one_to_one
returns-clause-one_to_one c = one_to_one

pub returns-clause-onto : goal.returns-clause-onto
returns-clause-onto c = onto
