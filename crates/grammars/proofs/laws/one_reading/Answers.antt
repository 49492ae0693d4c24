-- The reading of tokens is one, by the law.
use Rattle.grammars.proofs.GrammarLaws.{one}
use Rattle.grammars.proofs.laws.one_reading.Goals as goal

pub returns : goal.returns
returns c = λ g k right st es fs ts fits w v. one g k right w fs fits v
