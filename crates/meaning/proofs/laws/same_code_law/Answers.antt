-- What `laws::same_code_law` owes besides what the check finds.
use Rattle.meaning.proofs.CodeLaws.{same_code}
use Rattle.meaning.proofs.laws.same_code_law.Goals as goal

pub returns : goal.returns
returns c = same_code
