-- What the loop of `type_tests::same_types` keeps.
use Rattle.std.proofs.Common.{ℕ, ◌<◌, ◌≡◌, get_or}
use Rattle.dialect_types.specs.Trees.{type_at, type_trees}
use Rattle.dialect_types.specs.declared.types.TypeHandle.{TypeHandle}
use Rattle.dialect_core.proofs.type_tests.same_types.Given as goal

abbrev pub invariant-loop-i : goal.invariant-loop-i
invariant-loop-i l = (k : ℕ) (d : TypeHandle) → k < l.i → type_at (type_trees l.types) (get_or l.xs k d) ≡ type_at (type_trees l.types) (get_or l.ys k d)
