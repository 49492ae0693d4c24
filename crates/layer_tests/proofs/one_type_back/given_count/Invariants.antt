-- Invariants of the loop in `one_type_back::given_count`.
use Rattle.std.proofs.Common.{◌≤◌}
use Rattle.layer_tests.proofs.one_type_back.given_count.Given as goal

abbrev pub invariant-loop-t : goal.invariant-loop-t
invariant-loop-t l = l.count ≤ l.t
