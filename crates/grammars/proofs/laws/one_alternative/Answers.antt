-- The next token tells the alternative, by the law.
use Rattle.grammars.proofs.GrammarLaws.{predicts}
use Rattle.grammars.proofs.laws.one_alternative.Goals as goal

pub returns : goal.returns
returns c = λ g k right r i α st es ts fits e w. predicts g k right r i α st es ts fits e w
