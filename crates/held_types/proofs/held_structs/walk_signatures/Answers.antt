-- What `held_structs::walk_signatures` owes besides what the check finds.
use Rattle.std.proofs.Common.{◌+◌}
use Rattle.held_types.specs.Values.{IsInSignature, IsInSignatures}
use Rattle.held_types.proofs.WalkLaws.{walked_both}
use Rattle.held_types.proofs.ValueLaws.{below_split, below_more, below_last}
use Rattle.held_types.proofs.held_structs.walk_signatures.Goals as goal

pub loop-f-preserved : goal.loop-f-preserved
loop-f-preserved c =
    let m = c.args.m.now in
    let n = c.loop-f.f in
    let P = IsInSignature m in
    walked_both m (IsInSignatures m n) (P n) (IsInSignatures m (n + 1)) c.args.walk.now c.loop-f.walk c.walk_signature.new.walk c.loop-f.invariant c.in_ok-walk_signature.ensures.walk (below_split P n) (below_more P n) (below_last P n)
