-- What `scope::Scope::define_under` owes besides what the check finds.
use Rattle.std.proofs.lemmas.Result.{on_ok_weaker}
use Rattle.ll_bodies.specs.Scopes.{Named}
use Rattle.ll_bodies.proofs.ScopeLaws.{number_defines, name_defines, adds}
use Rattle.ll_bodies.proofs.scope.Scope.define_under.Goals as goal

pub returns-else-number-self-clause-ok : goal.returns-else-number-self-clause-ok
returns-else-number-self-clause-ok c = on_ok_weaker c.count.result (λ h types. rw c.in-Numbered.is (number_defines types _ _ c.args.local c.in-Numbered.number c.if-number-self.false (h types))) c.count.ensures.ok

pub returns-in_ok-set_name-in-Named-clause-ok : goal.returns-in_ok-set_name-in-Named-clause-ok
returns-in_ok-set_name-in-Named-clause-ok c = λ types. rw c.in-Named.is (name_defines types c.args.self.now c.set_name.new.self c.args.local c.in-Named.name.now c.set_name.ensures.next c.in_ok-set_name-in-Named.ensures.put)

pub returns-in_ok-set_name-in-Named-clause-adds : goal.returns-in_ok-set_name-in-Named-clause-adds
returns-in_ok-set_name-in-Named-clause-adds c = adds c.args.self.now c.set_name.new.self (Named c.in-Named.name.now) c.args.local c.in_ok-set_name-in-Named.ensures.put
