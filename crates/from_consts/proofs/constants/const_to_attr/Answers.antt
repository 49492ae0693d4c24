-- What `constants::const_to_attr` owes besides what the check finds.
use Rattle.from_consts.proofs.ConstantLaws.{made_for}
use Rattle.from_consts.proofs.constants.const_to_attr.Goals as goal

pub returns-clause-some : goal.returns-clause-some
returns-clause-some c =
    let typed = c.in_ok-_ty.ensures in
    let there = c.is_placeholder.ensures.no c.if-is_placeholder.false in
    made_for c.args.«module».now c.const_type.new.cctx c.const_type.new.ctx.types c.args.c c.in_ok-_ty._ty c.in_ok-attr.field-0 there typed.sound c.const_type.ensures.gives.context typed.stands c.in_ok-attr.ensures.made
