-- What `constants::chars` owes besides what the check finds.
use Rattle.std.proofs.Common.{◌<◌, ◌^◌, ℕ, All, subst}
use Rattle.ll_bodies.proofs.constants.chars.Goals as goal

pub owned-requires : goal.owned-requires
owned-requires c = subst (All (λ (b : ℕ). b < 2 ^ 8)) c.as_slice.ensures.value c.are_small.ensures
