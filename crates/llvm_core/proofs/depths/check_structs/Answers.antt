-- What `depths::check_structs` owes besides what the check finds.
use Rattle.std.proofs.Common.{below_more, arith}
use Rattle.llvm_core.proofs.DepthLemmas.{struct_passes}
use Rattle.llvm_core.proofs.depths.check_structs.Goals as goal

pub loop-s-preserved : goal.loop-s-preserved
loop-s-preserved c = record {
  passed = below_more _ _ c.loop-s.invariant.passed (struct_passes c.args.m.now c.loop-s.s c.is_deep_struct.result c.is_deep_struct.ensures.deep c.if-is_deep_struct.false);
  notes = c.is_deep_struct.ensures.notes;
}

pub returns-clause-ok : goal.returns-clause-ok
returns-clause-ok c = λ k lt. c.loop-s.invariant.passed k (omega (arith, c.structs-s-end.ensures.len))
