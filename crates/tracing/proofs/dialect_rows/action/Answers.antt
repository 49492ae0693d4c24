-- What `dialect_rows::action` owes besides what the check finds.
use Rattle.std.proofs.Common.{Some, length, ap, refl, sym, subst, ◌∙◌}
use Rattle.std.proofs.lemmas.Option.{same_Some}
use Rattle.std.proofs.lemmas.Result.{IfOk-weaker}
use Rattle.dialect_types.specs.Trees.{IsStored, type_trees}
use Rattle.const_attrs.specs.Trees.{HasTypesBelow, attr_tree, attr_data}
use Rattle.const_attrs.specs.declared.const_attr.ConstAttr.{ConstAttr}
use Rattle.dialect_core.specs.declared.ops.OpKind.TheVariants as O
use Rattle.dialect_core.specs.Data.{ConstantOp, FilledOp, RowOp}
use Rattle.tracing.specs.Table.{IsTermAt}
use Rattle.tracing.specs.Tables.{contents_in}
use Rattle.tracing.specs.DialectBodies.{HasTypesOfValues, term_of}
use Rattle.tracing.specs.declared.body.Action.TheVariants as A
use Rattle.tracing.specs.Bodies.{IsAction}
use Rattle.tracing.proofs.FirstClassLaws.{constant_of_values}
use Rattle.tracing.proofs.GrowLaws.{held_action}
use Rattle.tracing.proofs.DialectLaws.{constant_within, kind_kept, action_of_kind}
use Rattle.tracing.proofs.dialect_rows.action.Goals as goal

pub constant-requires-clause-within : goal.constant-requires-clause-within
constant-requires-clause-within c =
    let r = c.requires.here in
    subst (λ (v : ConstAttr). HasTypesBelow (length c.args.ctx.now.types) (attr_data v)) (sym c.attr.ensures) (constant_within c.args.ctx.now c.args.op r.1 c.in-Constant.value r.0.typed r.2.here (c.op_kind.ensures.kind ∙ ap Some c.in-Constant.is))

pub constant-requires-clause-first_class : goal.constant-requires-clause-first_class
constant-requires-clause-first_class c =
    let r = c.requires.here in
    let stored = subst IsStored c.types.ensures c.len-count.ensures.stored in
    subst (λ (v : ConstAttr). HasTypesOfValues c.args.ctx.now (attr_data v)) (sym c.attr.ensures) (constant_of_values c.args.ctx.now r.0 c.args.op r.1 c.in-Constant.value stored r.2 (c.op_kind.ensures.kind ∙ ap Some c.in-Constant.is))

pub returns-in_ok-place-in-Constant-clause-is : goal.returns-in_ok-place-in-Constant-clause-is
returns-in_ok-place-in-Constant-clause-is c = λ setting h o at.
    let x = c.args.ctx.now in
    let now = contents_in c.constant.new.tables in
    let value = c.in-Constant.value in
    let place = c.in_ok-place-in-Constant.place in
    subst (IsAction now (A.Holds place)) (action_of_kind setting x c.args.op o (O.Constant value) (ConstantOp (attr_tree (type_trees x.types) (attr_data value))) at.here (c.op_kind.ensures.kind ∙ ap Some c.in-Constant.is) refl)
    (held_action now place _ (subst (λ (v : ConstAttr). IsTermAt now.terms place (term_of setting x v)) c.attr.ensures (c.in_ok-place-in-Constant.ensures.is setting)))

pub filling-requires-clause-here : goal.filling-requires-clause-here
filling-requires-clause-here c =
    let r = c.requires.here in
    let kept = kind_kept c.args.ctx.now c.args.op r.1 (O.Filled c.in-Filled.fill) r.2.here (c.op_kind.ensures.kind ∙ ap Some c.in-Filled.is) in
    (r.0, r.1, r.2, sym (same_Some (FilledOp c.in-Filled.fill) r.1.kind kept))

pub returns-in-Filled-clause-is : goal.returns-in-Filled-clause-is
returns-in-Filled-clause-is c =
    IfOk-weaker c.filling.result _ _
    (λ a f setting h o at.
    subst (IsAction (contents_in c.filling.new.tables) a) (action_of_kind setting c.args.ctx.now c.args.op o (O.Filled c.in-Filled.fill) (FilledOp c.in-Filled.fill) at.here (c.op_kind.ensures.kind ∙ ap Some c.in-Filled.is) refl)
    (f setting h o at))
    c.filling.ensures.is

pub returns-in-Row-clause-is : goal.returns-in-Row-clause-is
returns-in-Row-clause-is c =
    IfOk-weaker c.applied.result _ _
    (λ a f setting h o at.
    subst (IsAction (contents_in c.applied.new.tables) a) (action_of_kind setting c.args.ctx.now c.args.op o (O.Row c.in-Row.row) (RowOp c.in-Row.row) at.here (c.op_kind.ensures.kind ∙ ap Some c.in-Row.is) refl) (f setting h o at))
    c.applied.ensures.is
