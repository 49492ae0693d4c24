-- What `scope::Scope::define_next` owes besides what the check finds.
use Rattle.std.proofs.lemmas.Result.{on_ok_weaker}
use Rattle.ll_bodies.proofs.ScopeLaws.{none_defines}
use Rattle.ll_bodies.proofs.scope.Scope.define_next.Goals as goal

pub returns-clause-ok : goal.returns-clause-ok
returns-clause-ok c = on_ok_weaker c.count.result (λ h types. none_defines types _ _ c.args.local (h types)) c.count.ensures.ok
