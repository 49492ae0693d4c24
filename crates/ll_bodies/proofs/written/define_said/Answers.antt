-- What `written::define_said` owes besides what the check finds.
use Rattle.std.proofs.lemmas.Result.{on_ok_weaker}
use Rattle.ll_bodies.specs.Scopes.{key_of}
use Rattle.ll_bodies.specs.ScopeViews.{key_view, local_view}
use Rattle.ll_bodies.proofs.ScopeLaws.{takes_same, refuses_same}
use Rattle.ll_bodies.proofs.WrittenLaws.{key_defined, quoted_defined}
use Rattle.ll_bodies.proofs.written.define_said.Goals as goal

pub returns-in-Some-clause-ok : goal.returns-in-Some-clause-ok
returns-in-Some-clause-ok c =
    on_ok_weaker c.define_under.result
    (λ h types. takes_same types c.args.scope.now c.define_under.new.self _ _ (h types) (key_defined (key_of c.args.written.now) (key_view c.in-Some.key) c.in-Some.ensures.key (local_view types c.args.local)))
    c.define_under.ensures.ok

pub returns-in-None-clause-ok : goal.returns-in-None-clause-ok
returns-in-None-clause-ok c =
    on_ok_weaker c.define_quoted.result
    (λ h types. takes_same types c.args.scope.now c.define_quoted.new.scope _ _ (h types) (quoted_defined c.args.written.now c.in-None.ensures.none (local_view types c.args.local)))
    c.define_quoted.ensures.ok

pub returns-in-None-clause-not_yet : goal.returns-in-None-clause-not_yet
returns-in-None-clause-not_yet c = λ e types.
    refuses_same types c.args.scope.now _ _ (c.define_quoted.ensures.not_yet e types) (quoted_defined c.args.written.now c.in-None.ensures.none (local_view types c.args.local))
