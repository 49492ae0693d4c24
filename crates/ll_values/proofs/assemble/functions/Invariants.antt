-- The functions that were found, and those that are left.
use Rattle.std.proofs.Common.{◌≤◌, length, All}
use Rattle.llvm_core.specs.Data.{trees_of}
use Rattle.ll_lines.specs.Views.{function_view, IsFunctionIn}
use Rattle.ll_values.specs.Views.{table_of, made_in, definition_view}
use Rattle.ll_values.proofs.WalkLaws.{Walks}
use Rattle.ll_values.proofs.assemble.functions.Given as goal

abbrev pub invariant-loop-definition : goal.invariant-loop-definition
invariant-loop-definition l = (l.next ≤ length l.store.functions) × All (IsFunctionIn l.m (made_in l.store)) l.found.items × Walks (function_view l.bytes (trees_of l.m) (table_of l.bytes (trees_of l.m) l.store)) (definition_view l.bytes (trees_of l.m) l.store) l.store.functions l.list l.next l.found.items

abbrev pub decreases-loop-definition : goal.decreases-loop-definition
decreases-loop-definition l = l.next
