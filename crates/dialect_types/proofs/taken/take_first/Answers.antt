-- What `taken::take_first` owes besides what the check finds.
use Rattle.std.proofs.Common.{subst, ◌∙◌}
use Rattle.dialect_types.specs.Legalised.{IsWished}
use Rattle.dialect_types.proofs.LegalLaws.{taken_first, taken_more}
use Rattle.dialect_types.proofs.taken.take_first.Goals as goal

pub returns-in-Some-clause-taken : goal.returns-in-Some-clause-taken
returns-in-Some-clause-taken c =
    taken_first c.args.texts.now c.loop-k.texts c.take_wish.new.texts c.args.asked.now c.in-Some.identifier c.loop-k.k c.loop-k.invariant.0 c.loop-k.invariant.1
    (subst (IsWished c.loop-k.texts c.take_wish.new.texts c.args.asked.now _) c.in-Some.is c.in_ok-identifier.ensures.wished)

pub loop-k-preserved : goal.loop-k-preserved
loop-k-preserved c =
    let wished = subst (IsWished c.loop-k.texts c.take_wish.new.texts c.args.asked.now _) c.in_default.is c.in_ok-identifier.ensures.wished in
    (wished.0 ∙ c.loop-k.invariant.0, taken_more c.loop-k.texts c.take_wish.new.texts c.args.asked.now c.loop-k.k c.loop-k.invariant.1 wished)
