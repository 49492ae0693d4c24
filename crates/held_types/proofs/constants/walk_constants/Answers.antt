-- What `constants::walk_constants` owes besides what the check finds.
use Rattle.std.proofs.Common.{◌+◌}
use Rattle.held_types.specs.Values.{IsInConstantsOf, IsInConstants}
use Rattle.held_types.proofs.WalkLaws.{walked_both}
use Rattle.held_types.proofs.ValueLaws.{below_split, below_more, below_last}
use Rattle.held_types.proofs.constants.walk_constants.Goals as goal

pub loop-i-preserved : goal.loop-i-preserved
loop-i-preserved c =
    let m = c.args.m.now in
    let n = c.loop-i.i in
    let P = IsInConstantsOf m in
    walked_both m (IsInConstants m n) (P n) (IsInConstants m (n + 1)) c.args.walk.now c.loop-i.walk c.walk_constants_of.new.walk c.loop-i.invariant c.in_ok-walk_constants_of.ensures.walk (below_split P n) (below_more P n) (below_last P n)
