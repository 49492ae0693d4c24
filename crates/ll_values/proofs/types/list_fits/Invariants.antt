-- The types that were looked at may be fields, so that the whole list may where the rest does.
use Rattle.std.proofs.Common.{◌≡◌, ◌≤◌, length}
use Rattle.llvm_core.specs.Data.{trees_of, types_at}
use Rattle.ll_values.specs.Lists.{list_at}
use Rattle.ll_values.specs.Values.{are_fields}
use Rattle.ll_values.proofs.types.list_fits.Given as goal

abbrev pub invariant-loop-ty : goal.invariant-loop-ty
invariant-loop-ty l = (l.next ≤ length l.store.types) × (are_fields (types_at (trees_of l.m).types (list_at l.store.types l.next)) ≡ are_fields (types_at (trees_of l.m).types (list_at l.store.types l.list)))

abbrev pub decreases-loop-ty : goal.decreases-loop-ty
decreases-loop-ty l = l.next
