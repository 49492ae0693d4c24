-- What `results::bits_of` owes besides what the check finds.
use Rattle.std.proofs.Common.{sym, ap, ◌∙◌}
use Rattle.kinds.specs.declared.fitting.Laned.{Laned}
use Rattle.ll_bodies.proofs.TypeLaws.{bit_told, noted_told}
use Rattle.ll_bodies.proofs.results.bits_of.Goals as goal

pub returns-in-One-clause-ty : goal.returns-in-One-clause-ty
returns-in-One-clause-ty c =
    let s = c.requires.source in
    bit_told c.args.source.now.module.now s.sound c.args.ty c.args.source.now.bit c.requires.ty (ap (λ (l : Laned). l.lanes) (sym c.laned.ensures) ∙ c.in-One.is) s.bit

pub returns-in-Some-clause-ty : goal.returns-in-Some-clause-ty
returns-in-Some-clause-ty c =
    let s = c.requires.source in
    let lanes = ap (λ (l : Laned). l.lanes) (sym c.laned.ensures) ∙ c.in-Many.is in
    (noted_told c.args.source.now.module.now s.sound c.args.source.now.bits.now c.args.ty c.in-Some.bits c.in-Many.field-0 c.in-Many.field-1 s.vectors c.requires.ty lanes (sym c.get.ensures ∙ c.in-Some.is)).0

pub returns-in-Some-clause-within : goal.returns-in-Some-clause-within
returns-in-Some-clause-within c =
    let s = c.requires.source in
    let lanes = ap (λ (l : Laned). l.lanes) (sym c.laned.ensures) ∙ c.in-Many.is in
    (noted_told c.args.source.now.module.now s.sound c.args.source.now.bits.now c.args.ty c.in-Some.bits c.in-Many.field-0 c.in-Many.field-1 s.vectors c.requires.ty lanes (sym c.get.ensures ∙ c.in-Some.is)).1
