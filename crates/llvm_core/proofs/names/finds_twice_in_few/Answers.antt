-- The goals of `names::finds_twice_in_few` that the tactics leave.
use Rattle.std.proofs.Common.{refl}
use Rattle.llvm_core.proofs.NameLemmas.{taken_texts, text_twice, text_next}
use Rattle.llvm_core.proofs.names.finds_twice_in_few.Goals as goal

pub returns-then-stands-clause-yes : goal.returns-then-stands-clause-yes
returns-then-stands-clause-yes c = λ _.
    text_twice c.args.names.now c.loop-place.place _ c.loop-place-test.true (rw (taken_texts c.loop-place.place c.args.names.now) at c.stands.ensures.yes c.if-stands.true)

pub loop-place-preserved : goal.loop-place-preserved
loop-place-preserved c =
    let new = rw (taken_texts c.loop-place.place c.args.names.now) at c.stands.ensures.no c.if-stands.false in
    (text_next c.args.names.now _ c.loop-place.place _ c.loop-place-test.true refl c.loop-place.invariant new).1
