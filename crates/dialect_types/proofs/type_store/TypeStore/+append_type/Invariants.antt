-- How `type_store::TypeStore::append_type` and what it calls end, and what their loop keeps.
use Rattle.std.proofs.Common.{◌+◌, ◌*◌, ◌∷◌}
use Rattle.dialect_types.specs.Trees.{type_trees}
use Rattle.dialect_types.proofs.PrintedTypes.{PrintedTypes, reach}
use Rattle.dialect_types.proofs.type_store.TypeStore.+append_type.Given as goal

-- the parts of a type are earlier ones
abbrev pub decreases-append_type : goal.decreases-append_type
decreases-append_type l = 3 * (l.ty.0 + 1)

abbrev pub decreases-append_counted : goal.decreases-append_counted
decreases-append_counted l = 3 * (l.element.0 + 1) + 1

abbrev pub decreases-append_types : goal.decreases-append_types
decreases-append_types l = 3 * reach l.types.now + 1

abbrev pub decreases-append_struct : goal.decreases-append_struct
decreases-append_struct l = 3 * reach l.fields.now + 2

abbrev pub decreases-append_func : goal.decreases-append_func
decreases-append_func l = 3 * reach (l.returned ∷ l.params.now) + 2

abbrev pub invariant-append_types-loop-i : goal.invariant-append_types-loop-i
invariant-append_types-loop-i l = PrintedTypes (type_trees l.self) l.fn.types l.i l.fn.out.items l.out.items
