-- What `written::define_local` owes besides what the check finds.
use Rattle.std.proofs.Common.{◌≡◌, drop, ap, ◌∙◌}
use Rattle.std.proofs.lemmas.Result.{on_ok_weaker}
use Rattle.ll_lines.specs.Views.{text_of}
use Rattle.ll_bodies.specs.Scopes.{key_of, local_key}
use Rattle.ll_bodies.specs.ScopeViews.{local_view}
use Rattle.ll_bodies.proofs.ScopeLaws.{takes_same, refuses_same}
use Rattle.ll_bodies.proofs.WrittenLaws.{written_defined}
use Rattle.ll_bodies.proofs.written.define_local.Goals as goal

pub returns-in-Some-clause-ok : goal.returns-in-Some-clause-ok
returns-in-Some-clause-ok c =
    let t = text_of c.args.bytes.now c.in-Some.token in
    let e : key_of c.of_local.result.now ≡ local_key t = ap key_of (c.of_local.ensures ∙ ap (drop 1) c.text.ensures) in
    on_ok_weaker c.define_said.result
    (λ h types. rw c.in-Some.is (takes_same types c.args.scope.now c.define_said.new.scope _ _ (h types) (written_defined local_key c.of_local.result.now t e (local_view types c.args.local))))
    c.define_said.ensures.ok

pub returns-in-Some-clause-not_yet : goal.returns-in-Some-clause-not_yet
returns-in-Some-clause-not_yet c = λ z types.
    let t = text_of c.args.bytes.now c.in-Some.token in
    let e : key_of c.of_local.result.now ≡ local_key t = ap key_of (c.of_local.ensures ∙ ap (drop 1) c.text.ensures) in
    rw c.in-Some.is (refuses_same types c.args.scope.now _ _ (c.define_said.ensures.not_yet z types) (written_defined local_key c.of_local.result.now t e (local_view types c.args.local)))

pub returns-in-None-clause-ok : goal.returns-in-None-clause-ok
returns-in-None-clause-ok c = on_ok_weaker c.define_next.result (λ h types. rw c.in-None.is (h types)) c.define_next.ensures.ok
