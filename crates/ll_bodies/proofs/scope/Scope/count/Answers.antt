-- What `scope::Scope::count` owes besides what the check finds.
use Rattle.std.proofs.Common.{refl, arith}
use Rattle.ll_bodies.specs.Scopes.{Numbered}
use Rattle.ll_bodies.proofs.ScopeLaws.{counted_put, adds}
use Rattle.ll_bodies.proofs.scope.Scope.count.Goals as goal

pub returns-clause-ok : goal.returns-clause-ok
returns-clause-ok c = λ types. counted_put types c.args.self.now _ c.args.local c.args.number (omega arith) refl c.in_ok-set_number.ensures.put

pub returns-clause-adds : goal.returns-clause-adds
returns-clause-adds c = adds c.args.self.now _ (Numbered c.args.number) c.args.local c.in_ok-set_number.ensures.put
