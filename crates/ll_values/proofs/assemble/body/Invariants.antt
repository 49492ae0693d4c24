-- The parts that were found, and those that are left.
use Rattle.std.proofs.Common.{◌≤◌, length, All}
use Rattle.llvm_core.specs.Data.{trees_of}
use Rattle.ll_lines.specs.Views as lines
use Rattle.ll_values.specs.Views.{table_of, made_in, part_view}
use Rattle.ll_values.proofs.WalkLaws.{Walks}
use Rattle.ll_values.proofs.assemble.body.Given as goal

abbrev pub invariant-loop-piece : goal.invariant-loop-piece
invariant-loop-piece l = (l.next ≤ length l.store.bodies) × All (lines.IsPartIn l.m (made_in l.store)) l.found.items × Walks (lines.part_view l.bytes (trees_of l.m) (table_of l.bytes (trees_of l.m) l.store)) (part_view l.bytes (trees_of l.m) l.store) l.store.bodies l.list l.next l.found.items

abbrev pub decreases-loop-piece : goal.decreases-loop-piece
decreases-loop-piece l = l.next
