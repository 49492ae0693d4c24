-- What `constants::said_list` owes besides what the check finds.
use Rattle.std.proofs.Common.{Some, None, length, sym, ◌∙◌}
use Rattle.ll_bodies.proofs.KindLaws.{listed_apart, all_mean}
use Rattle.ll_bodies.proofs.constants.said_list.Goals as goal

pub returns-then-not-stand_for : goal.returns-then-not-stand_for
returns-then-not-stand_for c = λ bytes table meant.
    let numbers = c.args.numbers.now in
    listed_apart bytes c.args.module.now c.requires.sound table (length numbers) numbers meant c.args.ty c.args.brackets c.args.said.now (sym c.stand_for.ensures ∙ c.if-not-stand_for.true)

pub returns-in-Some : goal.returns-in-Some
returns-in-Some c = λ bytes table meant.
    let numbers = c.args.numbers.now in
    all_mean bytes c.args.module.now c.requires.sound table (length numbers) numbers meant c.args.ty c.args.brackets c.args.said.now (Some c.in-Some.cs) c.requires.ty c.requires.said
    (sym c.stand_for.ensures ∙ c.if-not-stand_for.false) (sym c.in-Some.is ∙ c.in_ok-found.ensures)

pub returns-in-None : goal.returns-in-None
returns-in-None c = λ bytes table meant.
    let numbers = c.args.numbers.now in
    all_mean bytes c.args.module.now c.requires.sound table (length numbers) numbers meant c.args.ty c.args.brackets c.args.said.now None c.requires.ty c.requires.said
    (sym c.stand_for.ensures ∙ c.if-not-stand_for.false) (sym c.in-None.is ∙ c.in_ok-found.ensures)
