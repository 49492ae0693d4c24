-- The structs that were found, and those that are left.
use Rattle.std.proofs.Common.{◌≤◌, length, All}
use Rattle.llvm_core.specs.Data.{trees_of}
use Rattle.ll_lines.specs.Views.{struct_view, IsStructIn}
use Rattle.ll_values.specs.Views.{structure_view}
use Rattle.ll_values.proofs.WalkLaws.{Walks}
use Rattle.ll_values.proofs.assemble.structs.Given as goal

abbrev pub invariant-loop-structure : goal.invariant-loop-structure
invariant-loop-structure l = (l.next ≤ length l.store.structs) × All (IsStructIn l.m) l.found.items × Walks (struct_view l.bytes (trees_of l.m)) (structure_view l.bytes (trees_of l.m) l.store) l.store.structs l.list l.next l.found.items

abbrev pub decreases-loop-structure : goal.decreases-loop-structure
decreases-loop-structure l = l.next
