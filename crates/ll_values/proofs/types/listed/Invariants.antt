-- The types that were found, and those that are left.
use Rattle.std.proofs.Common.{◌≡◌, ◌≤◌, ◌++◌, length}
use Rattle.ll_values.specs.Lists.{list_at}
use Rattle.ll_values.proofs.types.listed.Given as goal

abbrev pub invariant-loop-ty : goal.invariant-loop-ty
invariant-loop-ty l = (l.next ≤ length l.store.types) × (l.found.items ++ list_at l.store.types l.next ≡ list_at l.store.types l.list)

abbrev pub decreases-loop-ty : goal.decreases-loop-ty
decreases-loop-ty l = l.next
