-- What `constants::splat` owes besides what the check finds.
use Rattle.std.proofs.Common.{◌≡◌, true, false, sym, ◌∙◌}
use Rattle.llvm_core.specs.Holding.{IsSplatOf}
use Rattle.ll_bodies.proofs.HoldLaws.{no_splat}
use Rattle.ll_bodies.proofs.constants.splat.Goals as goal

pub returns-then-not-may_splat : goal.returns-then-not-may_splat
returns-then-not-may_splat c = λ there.
    let m = c.args.module.now in
    let lacks : ¬ (IsSplatOf m c.args.ty c.args.c) = λ fit. (let bad : true ≡ false = sym (c.may_splat.ensures.1 fit) ∙ c.if-not-may_splat.true in cc (bad)) in
    no_splat m c.requires.sound c.args.ty c.args.c c.requires.ty there lacks

pub splat_kind-requires : goal.splat_kind-requires
splat_kind-requires c = c.may_splat.ensures.0 c.if-not-may_splat.false

pub returns : goal.returns
returns c = λ there. let k = c.in_ok-kind.ensures in (λ parts. k.form, λ lacks. absurd (lacks k.parts))
