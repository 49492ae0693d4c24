-- What the two halves did is what the answer says.
use Rattle.round_ll.proofs.RunLaws.{ended_of, silent_of}
use Rattle.round_ll.proofs.run.round.Goals as goal

pub returns-in-Ok-clause-ended : goal.returns-in-Ok-clause-ended
returns-in-Ok-clause-ended g c = ended_of _ _ _ _ _ _ c.finish.result c.in-Ok.ensures.made c.finish.ensures

pub returns-in-Ok-clause-silent : goal.returns-in-Ok-clause-silent
returns-in-Ok-clause-silent g c = silent_of _ _ _ _ _ c.finish.result c.finish.ensures
