-- The goals of `edges::check_phis` that the tactics leave.
use Rattle.std.proofs.Common.{below_more, arith}
use Rattle.llvm_core.proofs.edges.check_phis.Goals as goal

pub loop-i-preserved : goal.loop-i-preserved
loop-i-preserved c = below_more _ _ c.loop-i.invariant c.in_ok-check_phi.ensures.ok

pub returns-clause-ok : goal.returns-clause-ok
returns-clause-ok c = λ k lt. c.loop-i.invariant k (omega (arith, c.inst_count-i-end.ensures))
