-- What `folding::are_filled` owes besides what the check finds.
use Rattle.std.proofs.Common.{ℕ, Bool, ◌&&◌, get_or, ap, sym, ◌∙◌}
use Rattle.std.specs.List.{list_all}
use Rattle.std.proofs.lemmas.List.{take_all}
use Rattle.std.proofs.lemmas.List.Folds.{list_all-map, list_all_more, list_all_at}
use Rattle.llvm_core.specs.Consts.{is_fill}
use Rattle.meaning.specs.Constants.{fill_of}
use Rattle.tracing.specs.Table.{term_at, terms}
use Rattle.tracing.proofs.folding.are_filled.Goals as goal

pub loop-place-preserved : goal.loop-place-preserved
loop-place-preserved c = record {
  at = λ trees.
      let test : ℕ → Bool = λ (k : ℕ). is_fill c.args.fill (fill_of (term_at (terms trees c.args.table.now) k)) in
      let here = ap (is_fill c.args.fill) (sym (c.fill_at.ensures trees)) ∙ sym c.is_fill.ensures ∙ c.if-not-is_fill.false in
      list_all_more test c.args.places.now c.loop-place.place-index 0 c.loop-place-test.true ∙ ap (λ (b : Bool). b && test (get_or c.args.places.now c.loop-place.place-index 0)) (c.loop-place.invariant.at trees) ∙ here;
}

pub returns-then-not-is_fill : goal.returns-then-not-is_fill
returns-then-not-is_fill c = λ trees.
    let test : ℕ → Bool = λ (k : ℕ). is_fill c.args.fill (fill_of (term_at (terms trees c.args.table.now) k)) in
    let here = ap (is_fill c.args.fill) (sym (c.fill_at.ensures trees)) ∙ sym c.is_fill.ensures ∙ c.if-not-is_fill.true in
    sym (list_all-map (is_fill c.args.fill) (λ (k : ℕ). fill_of (term_at (terms trees c.args.table.now) k)) c.args.places.now ∙ list_all_at test c.args.places.now c.loop-place.place-index 0 c.loop-place-test.true here)

pub returns : goal.returns
returns c = λ trees.
    let test : ℕ → Bool = λ (k : ℕ). is_fill c.args.fill (fill_of (term_at (terms trees c.args.table.now) k)) in
    let all = ap (list_all test) (sym (take_all c.loop-place.place-index c.args.places.now c.loop-place-test.false)) ∙ c.loop-place.invariant.at trees in
    sym (list_all-map (is_fill c.args.fill) (λ (k : ℕ). fill_of (term_at (terms trees c.args.table.now) k)) c.args.places.now ∙ all)
