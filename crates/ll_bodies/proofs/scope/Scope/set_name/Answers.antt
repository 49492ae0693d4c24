-- What `scope::Scope::set_name` owes besides what the check finds.
use Rattle.std.proofs.Common.{Some, refl, ℕ, List, Bor}
use Rattle.ll_bodies.specs.Scopes.{Named}
use Rattle.ll_bodies.proofs.MapLaws.{named_put, text_updated, put_from}
use Rattle.ll_bodies.proofs.scope.Scope.set_name.Goals as goal

pub returns-clause-put : goal.returns-clause-put
returns-clause-put c =
    let now = c.make_room.new.self in
    let new = record now { named = c.insert.new.self } in
    let puts = named_put now new c.args.name.now c.args.local refl (text_updated (λ (k : Bor (List ℕ)). k.now) now.named c.insert.new.self c.args.name (Some c.args.local) c.in_ok-insert.ensures.updates) refl in
    put_from c.args.self.now now new (Named c.args.name.now) c.args.local c.make_room.ensures.same puts
