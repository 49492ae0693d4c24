-- What is said from the place on is cut.
use Rattle.std.proofs.Common.{◌≡◌, ◌≤◌, ℕ, List, All, Some, map, drop, length}
use Rattle.llvm_core.specs.Data.{Trees}
use Rattle.llvm_core.specs.Module.{Module}
use Rattle.ll_lines.specs.Lines.{SaidConst}
use Rattle.ll_lines.specs.Views.{part_view, IsPartIn}
use Rattle.ll_bodies.specs.SourceViews.{HasLinesIn}
use Rattle.ll_bodies.specs.Meaning.{cut}
use Rattle.ll_bodies.specs.BlockViews.{IsBehind, behind_view}
use Rattle.ll_bodies.proofs.blocks.blocks_of.Given as goal

abbrev pub invariant-loop-at : goal.invariant-loop-at
invariant-loop-at l = record {
  within : l.at ≤ length l.parts;
  behind : IsBehind l.parts l.at l.behind.lines.now;
  kept : (m : Module) (made : ℕ) → All (IsPartIn m made) l.parts → All (HasLinesIn m made) l.behind.blocks.items;
  is_cut : (bytes : List ℕ) (t : Trees) (table : List SaidConst) → cut (map (part_view bytes t table) (drop l.at l.parts)) ≡ Some (behind_view bytes t table l.behind);
}

abbrev pub decreases-loop-at : goal.decreases-loop-at
decreases-loop-at l = l.at
