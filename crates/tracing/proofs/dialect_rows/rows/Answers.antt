-- What `dialect_rows::rows` owes besides what the check finds.
use Rattle.std.proofs.Common.{List, ap, subst, ◌∙◌, ◌++◌, ◌∷◌, []}
use Rattle.std.specs.Prelude.{take}
use Rattle.dialect_core.specs.Data.{DialectOp, type_in}
use Rattle.meaning.specs.Machine as M
use Rattle.meaning.specs.Dialect as Dialect
use Rattle.tracing.specs.declared.body.Slot.{Slot}
use Rattle.tracing.specs.Tables.{contents_in}
use Rattle.tracing.specs.Bodies.{AreRows}
use Rattle.tracing.specs.Renamed.{renamed_row}
use Rattle.tracing.specs.DialectBodies.{slot_of, IsOpIn, rows_of}
use Rattle.tracing.proofs.ListLaws.{listed_next, take_whole}
use Rattle.tracing.proofs.GrowLaws.{no_rows, rows_push}
use Rattle.tracing.proofs.TablesLaws.{grown_same, grown_then}
use Rattle.tracing.proofs.DialectLaws.{op_in_at, row_is}
use Rattle.tracing.proofs.dialect_rows.rows.Goals as goal

pub action-requires-clause-here : goal.action-requires-clause-here
action-requires-clause-here c =
    let r = c.requires.here in
    let s = op_in_at c.args.ctx.now r.0 c.args.ops.now r.1 c.loop-op.op-index c.loop-op-test.true r.2 in
    (r.0, s.item, s.fits)

pub loop-op-init : goal.loop-op-init
loop-op-init c = record { at = λ setting h os all. rw c.new-rows.ensures (no_rows _); grown = grown_same _ _ c.requires.tables }

pub loop-op-preserved : goal.loop-op-preserved
loop-op-preserved c = record {
  at = λ setting h os all.
      let x = c.args.ctx.now in
      let now = contents_in c.action.new.tables in
      let s = op_in_at x h c.args.ops.now os c.loop-op.op-index c.loop-op-test.true all in
      let before = rows_of setting x (take c.loop-op.op-index os) in
      let pushed = rows_push _ now c.loop-op.rows before c.in_ok-action.action _ _ c.in_ok-action.ensures.grown.kept (c.loop-op.invariant.at setting h os all) (c.in_ok-action.ensures.is setting h s.item s.fits) in
      let shown = ap (λ (r : M.Row Slot). before ++ r ∷ []) (row_is setting x _ s.item s.fits.here) ∙ listed_next (λ (o : DialectOp). renamed_row slot_of (Dialect.typed_row setting (type_in x) o)) os c.loop-op.op-index s.item s.at in
      rw c.in_ok-push.ensures.ok (subst (AreRows now _) shown pushed);
  grown = grown_then _ _ _ _ c.loop-op.invariant.grown c.in_ok-action.ensures.grown;
}

pub returns-clause-rows : goal.returns-clause-rows
returns-clause-rows c = λ setting h os all.
    subst (λ (qs : List DialectOp). AreRows (contents_in c.loop-op.tables) c.loop-op.rows (rows_of setting c.args.ctx.now qs)) (take_whole (IsOpIn c.args.ctx.now h) c.args.ops.now os c.loop-op.op-index c.loop-op-test.false all) (c.loop-op.invariant.at setting h os all)
