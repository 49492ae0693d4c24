-- What `value_tests::edges_fit` owes besides what the check finds.
use Rattle.std.proofs.Common.{arith}
use Rattle.dialect_core.proofs.value_tests.edges_fit.Goals as goal

pub returns-then-edges-count : goal.returns-then-edges-count
returns-then-edges-count c = (λ yes. (grind arith, c.all_edges_fit.ensures.0 yes), λ h. c.all_edges_fit.ensures.1 h.1)
