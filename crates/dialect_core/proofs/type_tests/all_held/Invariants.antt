-- What the loop of `type_tests::all_held` keeps.
use Rattle.std.proofs.Common.{ℕ, ◌<◌, get_or}
use Rattle.dialect_types.specs.Trees.{type_at, type_trees}
use Rattle.dialect_types.specs.declared.types.TypeHandle.{TypeHandle}
use Rattle.kinds.specs.Held.{IsHeld}
use Rattle.dialect_core.proofs.type_tests.all_held.Given as goal

abbrev pub invariant-loop-ty : goal.invariant-loop-ty
invariant-loop-ty l = (k : ℕ) (d : TypeHandle) → k < l.ty-index → IsHeld (type_at (type_trees l.types) (get_or l.tys k d))
