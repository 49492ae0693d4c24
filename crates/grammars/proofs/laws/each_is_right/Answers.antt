-- A grammar passed the check as it was made.
use Rattle.grammars.proofs.ReadingLaws.{right_of}
use Rattle.grammars.proofs.laws.each_is_right.Goals as goal

pub returns : goal.returns
returns c = right_of
