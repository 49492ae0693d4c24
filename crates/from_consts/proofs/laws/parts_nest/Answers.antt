-- What `laws::parts_nest` owes.
use Rattle.kinds.specs.Held.{deepest}
use Rattle.from_consts.proofs.CheckedLaws.{within_nests}
use Rattle.from_consts.proofs.laws.parts_nest.Goals as goal

pub returns : goal.returns
returns c m u t sound inside h = within_nests m sound u t deepest inside h
