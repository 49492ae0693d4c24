-- What `constants::op_kind` owes besides what the check finds.
use Rattle.std.proofs.Common.{ap, subst, sym, ◌∙◌, Some}
use Rattle.from_consts.specs.Steps.{IsOpKindGiven}
use Rattle.from_consts.proofs.ConstantLaws.{attr_op, filled_op, other_tree}
use Rattle.from_consts.proofs.constants.op_kind.Goals as goal

pub returns-in-Filled-clause-made : goal.returns-in-Filled-clause-made
returns-in-Filled-clause-made c = filled_op c.args.«module».now c.args.cctx.now c.args.c c.in-Filled.fill c.in-Filled.field-1 (c.const_kind.ensures.kind ∙ ap Some c.in-Filled.is)

pub returns-clause-made : goal.returns-clause-made
returns-clause-made c =
    let m = c.args.«module».now in
    let x = c.args.cctx.now in
    let other = other_tree m x c.args.c c.const_kind.result.now c.requires.sound c.const_kind.ensures.kind (λ fill t is. c.in_default.not-Filled fill t is) in
    subst (IsOpKindGiven m x c.args.c) (sym c.in_ok-constant.ensures) (attr_op m x c.args.c c.in_ok-made.made other c.in_ok-made.ensures.made)
