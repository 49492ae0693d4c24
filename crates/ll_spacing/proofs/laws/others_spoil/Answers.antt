-- Each byte has its text.
use Rattle.std.proofs.Common.{◌≡◌, Bool, true, false, not, refl}
use Rattle.ll_spacing.specs.Following.{goes_on}
use Rattle.ll_spacing.proofs.SpoilLaws.{spoils}
use Rattle.ll_spacing.proofs.laws.others_spoil.Goals as goal

pub returns : goal.returns
returns c k b e = spoils k b (is_true (goes_on k b) e)
  where
    is_true : (x : Bool) → not x ≡ false → x ≡ true
    is_true true e = refl
    is_true false e = absurd (let f : true ≡ false = e in cc)
