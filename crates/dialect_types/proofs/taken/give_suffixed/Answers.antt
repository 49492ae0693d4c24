-- What `taken::give_suffixed` owes besides what the check finds.
use Rattle.std.proofs.Common.{◌≡◌, ap, get_or, sym, subst, List, ℕ, Some, ◌∙◌}
use Rattle.std.proofs.lemmas.Option.{slice_get-get_or}
use Rattle.dialect_types.specs.Legalised.{IsTried}
use Rattle.dialect_types.proofs.LegalLaws.{tried_at, tried_noted}
use Rattle.dialect_types.proofs.taken.give_suffixed.Goals as goal

pub take_first-requires-clause-tried : goal.take_first-requires-clause-tried
take_first-requires-clause-tried c =
    let noted = slice_get-get_or c.pad.new.tried.items c.args.at c.index.result.now c.in_ok-pad.ensures.ok ∙ ap Some (let e : get_or c.pad.new.tried.items c.args.at c.index.result.now ≡ c.index.result.now = cc in e) in
    tried_at c.args.texts.now c.pad.new.tried.items c.args.asked.now c.args.at c.index.result.now c.in_ok-pad.ensures.tried noted c.requires.at

pub returns-in_err-identifier-clause-tried : goal.returns-in_err-identifier-clause-tried
returns-in_err-identifier-clause-tried c = subst (λ (xs : List (List ℕ)). IsTried xs c.pad.new.tried.items) (sym c.in_err-identifier.ensures.err) c.in_ok-pad.ensures.tried

pub returns-clause-tried : goal.returns-clause-tried
returns-clause-tried c =
    tried_noted c.args.texts.now c.take_first.new.texts c.pad.new.tried.items c.args.asked.now c.in_ok-identifier.identifier c.args.at c.in_ok-identifier.suffix
    c.in_ok-pad.ensures.tried c.requires.at c.in_ok-identifier.ensures.taken
