-- The goals of `edges::check_firsts` that the tactics leave.
use Rattle.std.proofs.Common.{below_more, arith}
use Rattle.llvm_core.proofs.edges.check_firsts.Goals as goal

pub loop-f-preserved : goal.loop-f-preserved
loop-f-preserved c = below_more _ _ c.loop-f.invariant c.in_ok-check_first.ensures.ok

pub returns-clause-ok : goal.returns-clause-ok
returns-clause-ok c = λ k lt. c.loop-f.invariant k (omega (arith, c.functions-f-end.ensures.len))

pub loop-f-init : goal.loop-f-init
loop-f-init c = λ k lt. absurd (omega (arith, lt))
