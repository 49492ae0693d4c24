-- What `dialect_rows::filling` owes besides what the check finds.
use Rattle.std.proofs.Common.{Some, Option, ap, sym, subst, ◌∙◌}
use Rattle.std.proofs.lemmas.Option.{same_Some, none-some}
use Rattle.kinds.specs.Held.{IsFirstClass}
use Rattle.dialect_types.specs.Trees.{TypeTree}
use Rattle.dialect_types.specs.declared.types.TypeHandle.{TypeHandle}
use Rattle.meaning.specs.Terms.{filled_term}
use Rattle.meaning.specs.Dialect.{option_type}
use Rattle.tracing.specs.Table.{IsTermAt}
use Rattle.tracing.specs.Tables.{contents_in}
use Rattle.tracing.proofs.DialectLaws.{op_within, result_within, result_tree, filled_type}
use Rattle.tracing.proofs.GrowLaws.{held_action}
use Rattle.tracing.proofs.dialect_rows.filling.Goals as goal

pub result_type-requires : goal.result_type-requires
result_type-requires c = op_within c.args.ctx.now c.args.op c.requires.here.1 c.requires.here.2.here

pub filled-requires-clause-within : goal.filled-requires-clause-within
filled-requires-clause-within c =
    let r = c.requires.here in
    result_within c.args.ctx.now c.args.op r.1 (Some c.in-Some.ty) r.0.typed r.2.here (c.result_type.ensures ∙ ap (λ (t : Option TypeHandle). Some t) c.in-Some.is)

pub filled-requires-clause-first_class : goal.filled-requires-clause-first_class
filled-requires-clause-first_class c =
    let x = c.args.ctx.now in
    let r = c.requires.here in
    let o = r.1 in
    let f = filled_type x r.0.function o.operands o.result o.successors o.kind c.args.fill r.3 r.2.form in
    let tree = result_tree x c.args.op o (Some c.in-Some.ty) r.2.here (c.result_type.ensures ∙ ap (λ (t : Option TypeHandle). Some t) c.in-Some.is) in
    subst IsFirstClass (same_Some f.0 _ (sym f.1 ∙ tree)) f.2

pub returns-clause-is : goal.returns-clause-is
returns-clause-is c = λ setting h o at.
    let now = contents_in c.filled.new.tables in
    let tree = result_tree c.args.ctx.now c.args.op o (Some c.in-Some.ty) at.here (c.result_type.ensures ∙ ap (λ (t : Option TypeHandle). Some t) c.in-Some.is) in
    let place = c.in_ok-place-in-Some.place in
    held_action now place _ (subst (λ (t : Option TypeTree). IsTermAt now.terms place (filled_term c.args.fill (option_type t))) (sym tree) c.in_ok-place-in-Some.ensures.is)

pub unreachable-requires : goal.unreachable-requires
unreachable-requires c =
    let x = c.args.ctx.now in
    let r = c.requires.here in
    let o = r.1 in
    let f = filled_type x r.0.function o.operands o.result o.successors o.kind c.args.fill r.3 r.2.form in
    let tree = result_tree x c.args.op o _ r.2.here (c.result_type.ensures ∙ ap (λ (t : Option TypeHandle). Some t) c.in-None.is) in
    none-some f.0 (sym tree ∙ f.1)
