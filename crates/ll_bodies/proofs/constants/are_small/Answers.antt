-- What `constants::are_small` owes besides what the check finds.
use Rattle.std.proofs.Common.{◌<◌, ◌^◌, ℕ, subst}
use Rattle.std.proofs.lemmas.Option.{get_or_from_slice_get}
use Rattle.support.proofs.ListLaws.{all_from}
use Rattle.ll_bodies.proofs.constants.are_small.Goals as goal

pub returns : goal.returns
returns c = all_from (λ (b : ℕ). b < 2 ^ 8) c.args.bytes.now (λ i b at. subst (λ (n : ℕ). n < 2 ^ 8) (get_or_from_slice_get c.args.bytes.now i b 0 at) (c.type_inv.bytes i).fits)
