-- What `scope::Scope::set_escaped` owes besides what the check finds.
use Rattle.std.proofs.Common.{◌≡◌, ℕ, List, Option, None, Some, string_bytes, refl, ap, sym, ◌∙◌, subst, Bor}
use Rattle.std.specs.Prelude.{IsSome}
use Rattle.ll_bodies.specs.Scopes.{Named}
use Rattle.ll_bodies.specs.ScopeViews.{IsPut}
use Rattle.ll_bodies.specs.declared.scope.Local.{Local}
use Rattle.ll_bodies.proofs.MapLaws.{named_at, named_put, escaped_put, text_updated}
use Rattle.ll_bodies.proofs.scope.Scope.set_escaped.Goals as goal

pub returns-in-Some-clause-put : goal.returns-in-Some-clause-put
returns-in-Some-clause-put c =
    let old = c.args.self.now in
    let new = record old { named = c.get_mut.follows.lender c.args.local } in
    let here : named_at old c.as_str.result.now ≡ Some c.in-Some.held.now = sym c.in-Some.ensures.value in
    let updates = (c.get_mut.follows.holds c.args.local).3 (subst (λ (o : Option Local). IsSome o) (sym here) refl) in
    let puts = named_put old new c.as_str.result.now c.args.local refl (text_updated (λ (k : Bor (List ℕ)). k.now) old.named new.named c.as_str.result (Some c.args.local) updates) refl in
    subst (λ (n : List ℕ). IsPut old new (Named n) c.args.local) c.as_str.ensures.value puts

pub returns-clause-put : goal.returns-clause-put
returns-clause-put c =
    let old = c.args.self.now in
    let new = record old { named = c.get_mut.follows.lender-at-none; escaped = c.insert.new.self } in
    let none : named_at old (string_bytes c.args.name) ≡ None = ap (named_at old) (sym c.as_str.ensures.value) ∙ sym c.in_default.ensures.value in
    escaped_put old new (string_bytes c.args.name) c.args.local refl none c.get_mut.follows.holds-at-none
    (text_updated string_bytes old.escaped c.insert.new.self c.args.name (Some c.args.local) c.in_ok-insert.ensures.updates)
