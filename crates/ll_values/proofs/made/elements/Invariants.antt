-- The constants that were found, and those that are left.
use Rattle.std.proofs.Common.{◌≡◌, ◌≤◌, ◌++◌, length}
use Rattle.ll_values.specs.Lists.{list_at}
use Rattle.ll_values.proofs.made.elements.Given as goal

abbrev pub invariant-loop-c : goal.invariant-loop-c
invariant-loop-c l = (l.next ≤ length l.store.consts) × (l.found.items ++ list_at l.store.consts l.next ≡ list_at l.store.consts l.list)

abbrev pub decreases-loop-c : goal.decreases-loop-c
decreases-loop-c l = l.next
