-- The node that is opened is the first target, from its place on, that is not met.
use Rattle.std.proofs.Common.{◌<◌, inr, arith, rules, length, slice_index_or}
use Rattle.std.proofs.lemmas.Grind.{common_steps}
use Rattle.std.proofs.lemmas.Option.{slice_get-get_or}
use Rattle.block_order.proofs.walk.step.Goals as goal

pub returns : goal.returns
returns c =
    let ts = c.targets-targets.result.now in
    let place = c.next_unmet-place.result in
    let within : place < length ts = omega arith in
    inr (record {
      below = c.pop.new.self.items;
      top = c.in-Some.top;
      place = place;
      node = slice_index_or ts place 0;
      was = c.in-Some.ensures.items;
      ahead = c.next_unmet-place.ensures.ahead within;
      passed = grind (arith, common_steps);
      is_target = rw (← c.targets-targets.ensures) (slice_get-get_or ts place 0 within);
      unmet = c.next_unmet-place.ensures.unmet within;
      met = search rules;
      stack = grind (arith, common_steps);
      done = search rules;
    })
