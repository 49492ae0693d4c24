-- What the loop of `phis::finds_two_values` keeps.
use Rattle.support.specs.NumberMaps.{value_at}
use Rattle.llvm_core.proofs.PhiLemmas.{ValuesSoFar}
use Rattle.llvm_core.proofs.phis.finds_two_values.Given as goal

abbrev pub invariant-loop-entry : goal.invariant-loop-entry
invariant-loop-entry l = ValuesSoFar l.entries l.entry-index (value_at l.values)
