-- What `scope::Scope::define_escaped` owes besides what the check finds.
use Rattle.std.proofs.Common.{string_bytes}
use Rattle.std.proofs.lemmas.Result.{on_ok_weaker}
use Rattle.ll_bodies.proofs.ScopeLaws.{name_defines}
use Rattle.ll_bodies.proofs.scope.Scope.define_escaped.Goals as goal

pub returns-clause-ok : goal.returns-clause-ok
returns-clause-ok c = on_ok_weaker c.set_escaped.result (λ h types. name_defines types c.args.self.now c.set_escaped.new.self c.args.local (string_bytes c.args.name) c.set_escaped.ensures.next h) c.set_escaped.ensures.put
