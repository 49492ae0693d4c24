-- What holds in the loop of `folding::are_filled`.
use Rattle.std.specs.Prelude.{◌≡◌, ℕ, true, List, take}
use Rattle.std.specs.List.{list_all}
use Rattle.llvm_core.specs.Consts.{is_fill}
use Rattle.llvm_core.specs.Data.{TypeTree}
use Rattle.meaning.specs.Constants.{fill_of}
use Rattle.tracing.specs.Table.{term_at, terms}
use Rattle.tracing.proofs.folding.are_filled.Given as goal

abbrev pub invariant-loop-place : goal.invariant-loop-place
invariant-loop-place l = record {
  at : (trees : List TypeTree) → list_all (λ (k : ℕ). is_fill l.fill (fill_of (term_at (terms trees l.table) k))) (take l.place-index l.places) ≡ true;
}
