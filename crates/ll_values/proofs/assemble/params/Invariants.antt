-- The parameters that were found, and those that are left.
use Rattle.std.proofs.Common.{◌≡◌, ◌≤◌, ◌++◌, length}
use Rattle.ll_values.specs.Lists.{list_at}
use Rattle.ll_values.proofs.assemble.params.Given as goal

abbrev pub invariant-loop-param : goal.invariant-loop-param
invariant-loop-param l = (l.next ≤ length l.store.params) × (l.found.items ++ list_at l.store.params l.next ≡ list_at l.store.params l.list)

abbrev pub decreases-loop-param : goal.decreases-loop-param
decreases-loop-param l = l.next
