-- The place is that of the tokens' error.
use Rattle.std.proofs.Common.{◌≡◌}
use Rattle.ll_events.proofs.reading.tokens_in.Goals as goal

pub returns-in-Err-BadToken-clause-bad : goal.returns-in-Err-BadToken-clause-bad
returns-in-Err-BadToken-clause-bad c place e = let same : c.in-Err-BadToken.place ≡ place = cc in c.in-Err-BadToken.ensures.bad place (cc)
