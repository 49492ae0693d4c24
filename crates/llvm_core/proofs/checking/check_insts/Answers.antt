-- The goals of `checking::check_insts` that the tactics leave.
use Rattle.std.proofs.Common.{below_more, arith}
use Rattle.llvm_core.proofs.checking.check_insts.Goals as goal

pub loop-i-preserved : goal.loop-i-preserved
loop-i-preserved c = below_more _ _ c.loop-i.invariant c.in_ok-check_inst.ensures.ok

pub returns-clause-ok : goal.returns-clause-ok
returns-clause-ok c = λ k lt. c.loop-i.invariant k (omega (arith, c.inst_count-i-end.ensures))
