-- What `laws::woven_first_law` owes besides what the check finds.
use Rattle.meaning.proofs.WovenLaws.{woven_first}
use Rattle.meaning.proofs.laws.woven_first_law.Goals as goal

pub returns : goal.returns
returns c = woven_first
