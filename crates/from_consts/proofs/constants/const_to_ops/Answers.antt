-- What `constants::const_to_ops` owes besides what the check finds.
use Rattle.std.proofs.Common.{List, ◌∷◌, [], ◌++◌, ap, refl, ◌∙◌}
use Rattle.dialect_core.specs.declared.numbers.OpRef.{OpRef}
use Rattle.from_consts.proofs.ConstantLaws.{adds_op}
use Rattle.from_consts.proofs.constants.const_to_ops.Goals as goal

pub create_op-requires-clause-kind : goal.create_op-requires-clause-kind
create_op-requires-clause-kind c = (c.in_ok-kind.ensures.made c.const_type.new.ctx.types c.const_type.ensures.gives.context).plain

pub create_op-requires-clause-kind_types : goal.create_op-requires-clause-kind_types
create_op-requires-clause-kind_types c = (c.in_ok-kind.ensures.made c.const_type.new.ctx.types c.const_type.ensures.gives.context).types

pub returns-clause-ok : goal.returns-clause-ok
returns-clause-ok c =
    let typed = c.in_ok-ty.ensures in
    let made = c.in_ok-op.ensures in (
      c.in_ok-op.op,
      refl,
      c.in_ok-push.ensures.items ∙ ap (λ (xs : List OpRef). xs ++ c.in_ok-op.op ∷ []) c.reserve.ensures.items,
      adds_op c.args.«module».now c.args.c c.args.ctx.now c.const_type.new.ctx c.create_op.new.self c.args.cctx.now c.const_type.new.cctx c.in_ok-kind.kind c.in_ok-ty.ty c.in_ok-op.op c.requires.there typed.sound c.const_type.ensures.gives typed.stands
          c.in_ok-kind.ensures.made made.ok made.number,
    )
