-- The place of a bad token is that of the tokens' error.
use Rattle.ll_events.proofs.reading.events.Goals as goal

pub returns-in-Err-clause-bad : goal.returns-in-Err-clause-bad
returns-in-Err-clause-bad c place e = c.in-Err.ensures.bad place (cc)
