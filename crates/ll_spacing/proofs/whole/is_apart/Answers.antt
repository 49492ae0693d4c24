-- The first byte tells it.
use Rattle.ll_spacing.proofs.FollowLaws.{first_tells, text_tells}
use Rattle.ll_spacing.proofs.whole.is_apart.Goals as goal

pub returns-in-len1-up : goal.returns-in-len1-up
returns-in-len1-up c = first_tells _ _ _ _ _ c.in-Some.is c.may_follow.ensures c.in-len1-up.len_at_least

pub returns-in-len1-up-text : goal.returns-in-len1-up-text
returns-in-len1-up-text c = text_tells _ _ _ _ _ c.in_default-before.len_below c.in-Some.is c.may_follow-in-len1-up-text.ensures c.in-len1-up-text.len_at_least
