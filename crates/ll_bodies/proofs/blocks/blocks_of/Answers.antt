-- What `blocks::blocks_of` owes besides what the check finds.
use Rattle.std.proofs.Common.{◌≡◌, ◌-◌, ◌<◌, Some, List, All, suc, length, refl, arith, ap, sym, subst, ◌∙◌}
use Rattle.std.proofs.lemmas.Option.{slice_get_read}
use Rattle.ll_bodies.proofs.BlockLaws.{line_refused, label_refused, line_cut, label_cut, behind_none}
use Rattle.ll_bodies.proofs.KeptLaws.{behind_in, all_reverse}
use Rattle.ll_bodies.specs.declared.blocks.SaidBlock.{SaidBlock}
use Rattle.ll_bodies.specs.SourceViews.{HasLinesIn}
use Rattle.ll_bodies.proofs.ErrLaws.{passed_on}
use Rattle.ll_bodies.proofs.blocks.blocks_of.Goals as goal

pub put_line-requires-clause-line : goal.put_line-requires-clause-line
put_line-requires-clause-line c =
    let lt : c.loop-at.at - 1 < length c.args.parts.now = omega (arith, c.loop-at.invariant.within, c.loop-at-test.true) in
    slice_get_read c.args.parts.now _ (c.loop-at.at - 1) _ refl lt c.index-parts-at.is ∙ ap (λ p. Some p) c.in-Does.is

pub returns-in_err-put_label-in-Label-clause-not_yet : goal.returns-in_err-put_label-in-Label-clause-not_yet
returns-in_err-put_label-in-Label-clause-not_yet c = λ e bytes t table.
    let x = c.in_err-put_label-in-Label in
    let lt : c.loop-at.at - 1 < length c.args.parts.now = omega (arith, c.loop-at.invariant.within, c.loop-at-test.true) in
    let here = slice_get_read c.args.parts.now _ (c.loop-at.at - 1) _ refl lt c.index-parts-at.is ∙ ap (λ p. Some p) c.in-Label.is in
    let next : c.loop-at.at ≡ suc (c.loop-at.at - 1) = omega (arith, c.loop-at-test.true) in
    label_refused bytes t table c.args.parts.now (c.loop-at.at - 1) c.loop-at.at _ _ here next (c.loop-at.invariant.is_cut bytes t table)
    (x.ensures.not_yet (passed_on c.from_residual.result x.field-0.0 c.from_residual.ensures.1 e) bytes t table)

pub returns-in_err-put_line-in-Does-clause-not_yet : goal.returns-in_err-put_line-in-Does-clause-not_yet
returns-in_err-put_line-in-Does-clause-not_yet c = λ e bytes t table.
    let x = c.in_err-put_line-in-Does in
    let f = c.from_residual-in_err-put_line-in-Does in
    let lt : c.loop-at.at - 1 < length c.args.parts.now = omega (arith, c.loop-at.invariant.within, c.loop-at-test.true) in
    let here = slice_get_read c.args.parts.now _ (c.loop-at.at - 1) _ refl lt c.index-parts-at.is ∙ ap (λ p. Some p) c.in-Does.is in
    let next : c.loop-at.at ≡ suc (c.loop-at.at - 1) = omega (arith, c.loop-at-test.true) in
    line_refused bytes t table c.args.parts.now (c.loop-at.at - 1) c.loop-at.at _ _ here next (c.loop-at.invariant.is_cut bytes t table)
    (x.ensures.not_yet (passed_on f.result x.field-0.0 f.ensures.1 e) bytes t table)

pub loop-at-preserved-in-Continue-1 : goal.loop-at-preserved-in-Continue-1
loop-at-preserved-in-Continue-1 c =
    let i = c.loop-at.invariant in
    let o = c.in_ok-put_label-in-Label.ensures in
    let lt : c.loop-at.at - 1 < length c.args.parts.now = omega (arith, i.within, c.loop-at-test.true) in
    let next : c.loop-at.at ≡ suc (c.loop-at.at - 1) = omega (arith, c.loop-at-test.true) in
    let here = slice_get_read c.args.parts.now _ (c.loop-at.at - 1) _ refl lt c.index-parts-at.is ∙ ap (λ p. Some p) c.in-Label.is in
    record {
      within = omega (arith, lt);
      behind = behind_none c.args.parts.now (c.loop-at.at - 1) c.put_label.new.self.lines.now o.lines;
      kept = λ m made h. o.kept m made (behind_in m made c.args.parts.now c.loop-at.at c.loop-at.behind.lines.now i.behind h) (i.kept m made h);
      is_cut = λ bytes t table. label_cut bytes t table c.args.parts.now (c.loop-at.at - 1) c.loop-at.at c.in-Label.label _ _ here next (i.is_cut bytes t table) (o.ok bytes t table);
    }

pub loop-at-preserved : goal.loop-at-preserved
loop-at-preserved c =
    let i = c.loop-at.invariant in
    let o = c.in_ok-put_line-in-Does.ensures in
    let lt : c.loop-at.at - 1 < length c.args.parts.now = omega (arith, i.within, c.loop-at-test.true) in
    let next : c.loop-at.at ≡ suc (c.loop-at.at - 1) = omega (arith, c.loop-at-test.true) in
    let here = slice_get_read c.args.parts.now _ (c.loop-at.at - 1) _ refl lt c.index-parts-at.is ∙ ap (λ p. Some p) c.in-Does.is in
    record {
      within = omega (arith, lt);
      behind = o.behind;
      kept = λ m made h. o.kept m made (behind_in m made c.args.parts.now c.loop-at.at c.loop-at.behind.lines.now i.behind h) (i.kept m made h);
      is_cut = λ bytes t table. line_cut bytes t table c.args.parts.now (c.loop-at.at - 1) c.loop-at.at c.in-Does.line _ _ here next (i.is_cut bytes t table) (o.ok bytes t table);
    }

pub returns-clause-lines : goal.returns-clause-lines
returns-clause-lines c = λ m made h.
    let i = c.loop-at.invariant in
    let kept = c.in_ok-put_unlabelled.ensures.kept m made (behind_in m made c.args.parts.now c.loop-at.at c.loop-at.behind.lines.now i.behind h) (i.kept m made h) in
    subst (λ (bs : List SaidBlock). All (HasLinesIn m made) bs) (sym c.reverse.ensures.items) (all_reverse (HasLinesIn m made) _ kept)
