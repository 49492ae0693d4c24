-- What `laws::open_law` owes.
use Rattle.dialect_core.proofs.TypingLaws.{open_of}
use Rattle.dialect_core.proofs.laws.open_law.Goals as goal

pub returns : goal.returns
returns c = λ d f g is. open_of d f g is
