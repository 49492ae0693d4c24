-- They are, byte by byte.
use Rattle.std.proofs.Common.{refl}
use Rattle.ll_spacing.proofs.FollowLaws.{blank_follows}
use Rattle.ll_spacing.proofs.SignLaws.{before_sign, behind_sign}
use Rattle.ll_spacing.proofs.laws.signs_are_free.Goals as goal

pub returns : goal.returns
returns c = record { blank = λ k b e. rw (blank_follows k b e) refl; before = before_sign; behind = behind_sign }
