-- What `laws::own_law` owes.
use Rattle.dialect_core.proofs.TypingLaws.{own_form}
use Rattle.dialect_core.proofs.laws.own_law.Goals as goal

pub returns : goal.returns
returns c = λ d f g is. own_form d f g is
