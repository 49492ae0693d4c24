-- What the loop of `value_tests::are_past_firsts` keeps.
use Rattle.std.proofs.Common.{ℕ, ◌<◌, get_or}
use Rattle.dialect_core.specs.declared.ops.Successor.{Successor}
use Rattle.dialect_core.specs.WellFormed.{IsFirst}
use Rattle.dialect_core.proofs.value_tests.are_past_firsts.Given as goal

abbrev pub invariant-loop-edge : goal.invariant-loop-edge
invariant-loop-edge l = (k : ℕ) (d : Successor) → k < l.edge-index → ¬ IsFirst l.ctx (get_or l.edges k d).block
