-- The goals of `checking::note_function_names` that the tactics leave.
use Rattle.std.proofs.Common.{below_more, arith}
use Rattle.llvm_core.proofs.checking.note_function_names.Goals as goal

pub loop-f-preserved : goal.loop-f-preserved
loop-f-preserved c = record {
  seen = c.in_ok-check_function_name.ensures.seen;
  fresh = below_more _ _ c.loop-f.invariant.fresh c.in_ok-check_function_name.ensures.ok;
}

pub returns-clause-ok : goal.returns-clause-ok
returns-clause-ok c = λ k lt. c.loop-f.invariant.fresh k (omega (arith, c.functions-f-end.ensures.len))
