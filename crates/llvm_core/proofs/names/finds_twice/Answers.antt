-- The goals of `names::finds_twice` that the tactics leave.
use Rattle.std.proofs.Common.{subst}
use Rattle.llvm_core.specs.Names.{HasTwice}
use Rattle.llvm_core.proofs.NameLemmas.{none_twice, text_next, text_twice, all_texts}
use Rattle.llvm_core.proofs.names.finds_twice.Goals as goal

pub returns-then-not-branch-clause-yes : goal.returns-then-not-branch-clause-yes
returns-then-not-branch-clause-yes c =
    let there = rw (c.if-not-branch.true, c.loop-name.invariant.seen) at c.in_ok-insert.ensures in
    λ _. text_twice c.args.names.now c.loop-name.name-index _ c.loop-name-test.true there

pub loop-name-preserved : goal.loop-name-preserved
loop-name-preserved c =
    let new = rw (c.if-not-branch.false, c.loop-name.invariant.seen) at c.in_ok-insert.ensures in
    let next = text_next c.args.names.now c.insert.new.self c.loop-name.name-index _ c.loop-name-test.true new.0 c.loop-name.invariant.once new.1 in
    record { seen = next.0; once = next.1 }

pub loop-name-init : goal.loop-name-init
loop-name-init c = record { seen = c.requires; once = none_twice }

pub returns-clause-no : goal.returns-clause-no
returns-clause-no c = λ _. subst (λ ns. ¬ HasTwice ns) (all_texts c.args.names.now c.loop-name.name-index c.loop-name-test.false) c.loop-name.invariant.once
