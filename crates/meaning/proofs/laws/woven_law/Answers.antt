-- What `laws::woven_law` owes besides what the check finds.
use Rattle.meaning.proofs.WovenLaws.{woven}
use Rattle.meaning.proofs.laws.woven_law.Goals as goal

pub returns : goal.returns
returns c = woven
