-- The store has the type, which is not too deep.
use Rattle.kinds.proofs.DepthLaws.{shallow_at}
use Rattle.dialect_parsing.proofs.StoreLaws.{got_within}
use Rattle.dialect_parsing.proofs.making.made.Goals as goal

pub get-requires-clause-nesting : goal.get-requires-clause-nesting
get-requires-clause-nesting c = shallow_at _ c.requires.nesting

pub returns-clause-within : goal.returns-clause-within
returns-clause-within c = got_within _ _ _ _ c.in_ok-get.ensures.interned
