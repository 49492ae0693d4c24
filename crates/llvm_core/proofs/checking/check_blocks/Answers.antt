-- The goals of `checking::check_blocks` that the tactics leave.
use Rattle.std.proofs.Common.{below_more, arith}
use Rattle.llvm_core.proofs.checking.check_blocks.Goals as goal

pub loop-b-preserved : goal.loop-b-preserved
loop-b-preserved c = below_more _ _ c.loop-b.invariant c.in_ok-check_block.ensures.ok

pub returns-clause-ok : goal.returns-clause-ok
returns-clause-ok c = λ k lt. c.loop-b.invariant k (omega (arith, c.block_count-b-end.ensures))
