-- What the loop of `value_tests::pass_each` keeps.
use Rattle.std.proofs.Common.{ℕ, ◌<◌, ◌≡◌, Some, map, slice_get}
use Rattle.dialect_core.specs.declared.ops.Value.{Value}
use Rattle.dialect_core.specs.Data.{type_in}
use Rattle.dialect_core.specs.Checking.{Passes, tree_at}
use Rattle.dialect_core.proofs.value_tests.pass_each.Given as goal

abbrev pub invariant-loop-place : goal.invariant-loop-place
invariant-loop-place l = (k : ℕ) (v : Value) → k < l.place → slice_get l.values k ≡ Some v → Passes (type_in l.ctx) (slice_get (map (tree_at l.ctx) l.wanted) k) v
