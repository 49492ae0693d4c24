-- The line of a row is put behind the others.
use Rattle.std.proofs.Common.{◌≡◌, ℕ, length, List, ◌++◌, ap, ◌∙◌, subst, sym, arith}
use Rattle.grammars.specs.Lines.{chosen_at, AreLines}
use Rattle.grammars.proofs.LineLaws.{lines_more}
use Rattle.grammars.proofs.FlatLaws.{entries_are, others_are}
use Rattle.grammars.proofs.choices.Choices.new.Goals as goal

pub loop-row-preserved : goal.loop-row-preserved
loop-row-preserved c =
    let g = c.args.grammar.now in
    let f = chosen_at g.firsts.now g.alternatives.now g.rows.now in
    let new = c.in_ok-extend_from_slice.ensures.items ∙ ap (λ (xs : List ℕ). c.loop-row.entries.items ++ xs) c.deref.ensures.value in
    subst (AreLines c.above-classes.result _ f) (sym new) (lines_more c.above-classes.result c.loop-row.row-index f c.loop-row.entries.items c.write_line.new.line.items c.loop-row.invariant c.in_ok-write_line.ensures)

pub returns : goal.returns
returns c =
    let g = c.args.grammar.now in
    let end : c.loop-row.row-index ≡ length g.rows.now = omega (arith, c.loop-row-test.false, c.loop-row.auto.row-index-end) in
    let lines = subst (λ n. AreLines c.above-classes.result n (chosen_at g.firsts.now g.alternatives.now g.rows.now) c.loop-row.entries.items) end c.loop-row.invariant in
    record {
      entries = λ r x h. entries_are g.symbols.now g.alternatives.now g.firsts.now g.mores.now g.rows.now c.above-classes.result r x c.loop-row.entries.items lines h;
      others = λ r x h. others_are g.symbols.now g.alternatives.now g.firsts.now g.mores.now g.rows.now r x (λ i. let l = c.above-classes.ensures x i in absurd (omega (arith, l, h)));
    }
