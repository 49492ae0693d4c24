-- The goals of `edges::check_first` that the tactics leave.
use Rattle.std.proofs.Common.{◌∙◌, sym}
use Rattle.llvm_core.proofs.PhiLemmas.{no_length, some_length, no_preds, some_preds}
use Rattle.llvm_core.proofs.FirstLemmas.{some_at, none_at, first_counts, same_first, first_fails, first_fits}
use Rattle.llvm_core.proofs.edges.check_first.Goals as goal
use Rattle.llvm_core.proofs.edges.check_first.Goals.{else-not-is_empty-via-then-not-is_empty+else-not-is_empty-2, else-not-is_empty-via-else-not-is_empty}

pub returns-then-not-is_empty-2-clause-err : goal.returns-then-not-is_empty-2-clause-err
returns-then-not-is_empty-2-clause-err c =
    let m = c.args.m.now in
    let bs = c.blocks-blocks.result.now in
    let from = c.as_slice.result.now in
    let lt = some_at bs (sym c.is_empty.ensures ∙ c.if-not-is_empty.true) in
    let counts = first_counts m c.args.lists.now bs _ _ from c.requires.edges c.blocks-blocks.ensures.within lt (c.as_slice.ensures ∙ c.index-lists-blocks.is) in
    first_fails m c.args.f.0 bs c.blocks-blocks.ensures.blocks _ lt (some_preds m _ from counts (some_length from (sym c.is_empty-then-not-is_empty.ensures ∙ c.if-not-is_empty-2.true)))

pub returns-clause-ok : goal.returns-clause-ok
returns-clause-ok c =
    let m = c.args.m.now in
    let bs = c.blocks-blocks.result.now in
    first_fits m c.args.f.0 bs c.blocks-blocks.ensures.blocks (λ b at. elim c.else-not-is_empty.branch [
      | else-not-is_empty-via-then-not-is_empty+else-not-is_empty-2 w ↦ (let from = w.as_slice.result.now in
          let lt = some_at bs (sym c.is_empty.ensures ∙ w.if-not-is_empty.true) in
          let counts = first_counts m c.args.lists.now bs _ _ from c.requires.edges c.blocks-blocks.ensures.within lt (w.as_slice.ensures ∙ w.index-lists-blocks.is) in
          same_first m bs b _ at (no_preds m _ from counts (no_length from (sym w.is_empty-then-not-is_empty.ensures ∙ w.if-not-is_empty-2.false))))
      | else-not-is_empty-via-else-not-is_empty w ↦ absurd (none_at bs b (sym c.is_empty.ensures ∙ w.if-not-is_empty.false) at)
    ])
