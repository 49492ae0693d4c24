-- What `constants::hoist_constant` owes besides what the check finds.
use Rattle.std.proofs.Common.{ℕ, ◌∙◌, sym, ap}
use Rattle.std.proofs.lemmas.Result.{on_ok_weaker}
use Rattle.support.proofs.OptionLaws.{none_from}
use Rattle.dialect_core.specs.declared.ops.Value.TheVariants as V
use Rattle.from_llvm_ir.proofs.HoistLaws.{hoisting_open, used_again, hoisted_more}
use Rattle.from_llvm_ir.proofs.constants.hoist_constant.Goals as goal

pub add_constant-requires-clause-open : goal.add_constant-requires-clause-open
add_constant-requires-clause-open g c = let r = c.requires.hoisting in (r.0.home, r.0.base, _, _, _, hoisting_open r.0 c.args.source.now c.args.ctx.now c.args.values.now r.1 c.args.block r.2 r.3)

pub returns-then-has-clause-hoisting : goal.returns-then-has-clause-hoisting
returns-then-has-clause-hoisting g c = λ fr uses h number. used_again fr c.args.source.now c.args.ctx.now c.args.values.now uses c.args.c h (sym c.has.ensures ∙ c.if-has.true)

pub returns-clause-hoisting : goal.returns-clause-hoisting
returns-clause-hoisting g c =
    on_ok_weaker c.set.result
    (λ noted fr uses h number.
    let made = c.in_ok-op.ensures.made fr.home fr.base _ _ _ (hoisting_open fr c.args.source.now c.args.ctx.now c.args.values.now uses c.args.block h number) in
    hoisted_more fr c.args.source.now c.args.ctx.now c.add_constant.new.ctx c.args.values.now c.set.new.self uses c.args.c made.0 _ c.args.block h c.requires.apart c.requires.within c.requires.held
    (none_from _ (sym c.has.ensures ∙ c.if-has.false)) made.2 (ap (λ (n : ℕ). V.Result (record { 0 = n })) (sym made.1)) made.3 c.in_ok-op.ensures.count (made.1 ∙ c.in_ok-op.ensures.number) noted)
    c.set.ensures
