-- What `places::places_of` owes besides what the check finds.
use Rattle.tracing.proofs.PlaceLaws.{fresh_at}
use Rattle.tracing.proofs.places.places_of.Goals as goal

pub push-requires : goal.push-requires
push-requires c = rw c.loop-number.invariant.places (fresh_at c.args.numbers.now c.loop-number.number-index 0 c.requires c.loop-number-test.true)
