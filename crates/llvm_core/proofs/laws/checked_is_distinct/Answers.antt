-- What `laws::checked_is_distinct` owes besides what the check finds.
use Rattle.llvm_core.proofs.DistinctLaws.{distinct_of_checked, few_of_checked}
use Rattle.llvm_core.proofs.laws.checked_is_distinct.Goals as goal

pub returns-clause-distinct : goal.returns-clause-distinct
returns-clause-distinct c = λ m sound checked. distinct_of_checked m checked

pub returns-clause-few : goal.returns-clause-few
returns-clause-few c = λ m sound checked. few_of_checked m checked sound
