-- What `taken::Taken::give` owes besides what the check finds.
use Rattle.std.proofs.Common.{List, ℕ, None, Some, refl, subst, sym}
use Rattle.dialect_types.specs.Legalised.{IsTried}
use Rattle.dialect_types.proofs.LegalLaws.{first_itself, put_as, tried_grown}
use Rattle.dialect_types.proofs.taken.Taken.give.Goals as goal

pub invariant_of-self : goal.invariant_of-self
invariant_of-self c = subst (λ (xs : List (List ℕ)). IsTried xs c.self.inside.tried.items) (sym c.in_err-put.ensures.err) c.self.invariant

pub invariant_of-self-in-None : goal.invariant_of-self-in-None
invariant_of-self-in-None c =
    let put = put_as c.self.inside.texts c.put.new.self c.in_ok-text.text c.args.asked.now c.in_ok-put.field-0 None c.in-None.is c.in_ok-text.ensures c.in_ok-put.ensures.put in
    tried_grown c.self.inside.texts c.put.new.self c.self.inside.tried.items c.args.asked.now c.self.invariant put.0

pub give_suffixed-requires-clause-tried : goal.give_suffixed-requires-clause-tried
give_suffixed-requires-clause-tried c =
    let put = put_as c.self.inside.texts c.put.new.self c.in_ok-text.text c.in_ok-text.text c.in_ok-put.field-0 (Some c.in-Some.at) c.in-Some.is refl c.in_ok-put.ensures.put in
    subst (λ (xs : List (List ℕ)). IsTried xs c.self.inside.tried.items) (sym put.0) c.self.invariant

pub returns-in-None-clause-given : goal.returns-in-None-clause-given
returns-in-None-clause-given c =
    let put = put_as c.self.inside.texts c.put.new.self c.in_ok-text.text c.args.asked.now c.in_ok-put.field-0 None c.in-None.is c.in_ok-text.ensures c.in_ok-put.ensures.put in
    rw (← c.self.view_is) (first_itself c.self.inside.texts c.put.new.self c.args.asked.now c.in_ok-identifier.identifier c.in_ok-identifier.ensures put)
