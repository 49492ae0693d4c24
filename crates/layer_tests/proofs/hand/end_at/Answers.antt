-- What `hand::end_at` owes besides what the check finds: the kind has no types.
use Rattle.std.proofs.Common.{length}
use Rattle.layer_tests.proofs.hand.end_at.Goals as goal

pub place-requires-clause-types : goal.place-requires-clause-types
place-requires-clause-types g c = c.end_kind-kind.ensures.types (length c.args.ctx.now.types)
