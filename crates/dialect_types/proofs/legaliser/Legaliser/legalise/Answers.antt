-- What `legaliser::Legaliser::legalise` owes besides what the check finds.
use Rattle.std.proofs.Common.{◌≡◌, Some, None, sym, ap, ◌∙◌, refl}
use Rattle.std.proofs.lemmas.Result.{IfOk-weaker}
use Rattle.dialect_types.specs.Legalised.{IsGiven, paired}
use Rattle.dialect_types.proofs.LegalLaws.{grown_of, met_legal, names_grown, names_same, put_as}
use Rattle.dialect_types.proofs.legaliser.Legaliser.legalise.Goals as goal

pub copy-requires-in-Some : goal.copy-requires-in-Some
copy-requires-in-Some c =
    met_legal c.self.inside.names c.self.inside.taken c.put.new.self c.in_ok-text.text c.text.result.now c.in-Some.at c.self.invariant
    (put_as c.self.inside.names c.put.new.self c.in_ok-text.text c.in_ok-text.text c.in_ok-at.field-0 (Some c.in-Some.at) c.in-Some.is refl c.in_ok-at.ensures.put)
    c.text.ensures

pub returns-in-Some-clause-given : goal.returns-in-Some-clause-given
returns-in-Some-clause-given c =
    let put = put_as c.self.inside.names c.put.new.self c.in_ok-text.text c.args.name.now c.in_ok-at.field-0 (Some c.in-Some.at) c.in-Some.is c.in_ok-text.ensures c.in_ok-at.ensures.put in
    rw (← c.self.view_is)
    (IfOk-weaker c.copy-in-Some.result (λ i. i ≡ c.text.result.now) (IsGiven (paired c.self.inside.names c.self.inside.taken) (paired c.put.new.self c.self.inside.taken) c.args.name.now)
    (λ i same. names_same c.self.inside.names c.self.inside.taken c.put.new.self c.args.name.now i c.in-Some.at c.self.invariant put (c.text.ensures ∙ ap Some (sym same)))
    c.copy-in-Some.ensures)

pub invariant_of-self-in-Ok : goal.invariant_of-self-in-Ok
invariant_of-self-in-Ok c =
    let put = put_as c.self.inside.names c.put.new.self c.in_ok-text.text c.args.name.now c.in_ok-at.field-0 None c.in_default.is c.in_ok-text.ensures c.in_ok-at.ensures.put in
    let grown = names_grown c.self.inside.names c.self.inside.taken c.put.new.self c.give.new.taken c.args.name.now c.in-Ok.identifier c.self.invariant put c.in-Ok.ensures.given in
    (grown.0, grown.1)

pub returns-in-Ok-clause-given : goal.returns-in-Ok-clause-given
returns-in-Ok-clause-given c =
    let put = put_as c.self.inside.names c.put.new.self c.in_ok-text.text c.args.name.now c.in_ok-at.field-0 None c.in_default.is c.in_ok-text.ensures c.in_ok-at.ensures.put in
    let grown = names_grown c.self.inside.names c.self.inside.taken c.put.new.self c.give.new.taken c.args.name.now c.in-Ok.identifier c.self.invariant put c.in-Ok.ensures.given in
    rw (← c.self.view_is) grown.2

pub returns-in-Ok-clause-legalised : goal.returns-in-Ok-clause-legalised
returns-in-Ok-clause-legalised c =
    let put = put_as c.self.inside.names c.put.new.self c.in_ok-text.text c.args.name.now c.in_ok-at.field-0 None c.in_default.is c.in_ok-text.ensures c.in_ok-at.ensures.put in
    let grown = names_grown c.self.inside.names c.self.inside.taken c.put.new.self c.give.new.taken c.args.name.now c.in-Ok.identifier c.self.invariant put c.in-Ok.ensures.given in
    grown.1

pub returns-in-Ok-clause-grows : goal.returns-in-Ok-clause-grows
returns-in-Ok-clause-grows c =
    let put = put_as c.self.inside.names c.put.new.self c.in_ok-text.text c.args.name.now c.in_ok-at.field-0 None c.in_default.is c.in_ok-text.ensures c.in_ok-at.ensures.put in
    let grown = names_grown c.self.inside.names c.self.inside.taken c.put.new.self c.give.new.taken c.args.name.now c.in-Ok.identifier c.self.invariant put c.in-Ok.ensures.given in
    rw (← c.self.view_is) (grown_of (paired c.self.inside.names c.self.inside.taken) (paired c.put.new.self c.give.new.taken) c.args.name.now c.in-Ok.identifier grown.2)
