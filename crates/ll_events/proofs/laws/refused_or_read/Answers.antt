-- It has the same tokens, and no events.
use Rattle.ll_events.proofs.EventLaws.{not_read}
use Rattle.ll_events.proofs.laws.refused_or_read.Goals as goal

pub returns : goal.returns
returns c = not_read
