-- It does, by the law.
use Rattle.std.proofs.Common.{None}
use Rattle.ll_spacing.proofs.SpaceLaws.{one_more}
use Rattle.ll_spacing.proofs.laws.one_more_is_spaced.Goals as goal

pub returns : goal.returns
returns c xs x spaced follows = one_more None xs x spaced follows
