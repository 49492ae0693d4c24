-- One write more.
use Rattle.std.proofs.Common.{arith, length, length-drop, ap}
use Rattle.round_ll.proofs.ToldLemmas.{append_known-more, slice_from}
use Rattle.round_ll.proofs.outside.all_bytes.write_all.Goals as goal

pub loop-at-preserved : goal.loop-at-preserved
loop-at-preserved g c =
    let at = c.loop-at.at in
    let bytes = c.args.bytes.now in
    let rest = slice_from at bytes in
    record {
      in_range = omega (arith, c.in_ok-at.ensures.bound, ap length rest, length-drop at bytes);
      taken = append_known-more _ _ _ at c.in_ok-at.field-0 bytes _ rest c.loop-at.invariant.taken c.in_ok-at.ensures.bytes;
      later = omega (arith, c.loop-at.invariant.later, c.write.ensures.cause.later);
      untouched = λ none. absurd (omega (arith, none, c.loop-at-test.true));
    }
