-- What `run::apply` owes besides what the check finds.
use Rattle.std.proofs.Common.{sym, ◌∙◌}
use Rattle.std.proofs.lemmas.Result.{on_ok_weaker}
use Rattle.tracing.proofs.RunLaws.{built_at, shown_at}
use Rattle.tracing.proofs.run.apply.Goals as goal

pub read_all-requires : goal.read_all-requires
read_all-requires c = let typed = rw c.in-Applies.is at c.requires.2 in (c.requires.0, c.requires.1, rw c.as_slice.ensures typed.1, c.requires.3)

pub returns-in-Holds : goal.returns-in-Holds
returns-in-Holds c = on_ok_weaker c.hold.result (λ f now s typed h. rw c.in-Holds.is (f now s (rw c.in-Holds.is at typed) h)) c.hold.ensures

pub returns-then-is_silent : goal.returns-then-is_silent
returns-then-is_silent c =
    on_ok_weaker c.build.result
    (λ f now s below h.
    let typed = rw c.in-Applies.is at below in
    let r = c.in_ok-places-in-Applies.ensures.at now s (rw c.as_slice.ensures typed.1) h in
    let named = rw c.as_slice.ensures at r.1 in
    rw c.in-Applies.is
    (built_at now c.build.new.run s c.args.row.now.result c.in-Applies.op c.in-Applies.types c.in-Applies.operands (sym c.is_silent.ensures ∙ c.if-is_silent.true) (f now s _ typed.0 r.0 named)))
    c.build.ensures

pub returns-else-is_silent : goal.returns-else-is_silent
returns-else-is_silent c =
    on_ok_weaker c.show.result
    (λ f now s below h.
    let typed = rw c.in-Applies.is at below in
    let r = c.in_ok-places-in-Applies.ensures.at now s (rw c.as_slice.ensures typed.1) h in
    let named = rw c.as_slice.ensures at r.1 in
    rw c.in-Applies.is
    (shown_at now c.show.new.run s c.args.row.now.result c.in-Applies.op c.in-Applies.types c.in-Applies.operands (sym c.is_silent.ensures ∙ c.if-is_silent.false) (f now s _ typed.0 r.0 named)))
    c.show.ensures
