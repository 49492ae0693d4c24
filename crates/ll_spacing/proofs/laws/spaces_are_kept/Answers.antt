-- They are, by the law.
use Rattle.ll_spacing.proofs.SpaceLaws.{spaced_again}
use Rattle.ll_spacing.proofs.laws.spaces_are_kept.Goals as goal

pub returns : goal.returns
returns c = spaced_again
