-- What `constants::said_chars` owes besides what the check finds.
use Rattle.std.proofs.Common.{◌<◌, ◌^◌, ℕ, List, Option, Some, None, All, ap, sym, ◌∙◌, subst}
use Rattle.std.specs.Prelude.{IfSome}
use Rattle.ll_bodies.specs.Constants.{chars_said}
use Rattle.ll_bodies.proofs.KindLaws.{chars_mean}
use Rattle.ll_bodies.proofs.constants.said_chars.Goals as goal

pub returns-in-Some : goal.returns-in-Some
returns-in-Some c = λ table.
    let e = sym c.in-Some.is ∙ c.in_ok-said.ensures.value ∙ ap chars_said c.text.ensures in
    let small = subst (λ (o : Option (List ℕ)). IfSome o (All (λ (b : ℕ). b < 2 ^ 8))) c.in-Some.is c.in_ok-said.ensures.small in
    chars_mean c.args.bytes.now c.args.module.now c.requires.sound table c.args.ty c.args.token (Some c.in-Some.written) c.requires.ty e small

pub returns-in-None : goal.returns-in-None
returns-in-None c = λ table.
    let e = sym c.in-None.is ∙ c.in_ok-said.ensures.value ∙ ap chars_said c.text.ensures in
    chars_mean c.args.bytes.now c.args.module.now c.requires.sound table c.args.ty c.args.token None c.requires.ty e tt
