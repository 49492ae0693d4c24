-- What the loop of `phis::has_late_phi` keeps.
use Rattle.llvm_core.proofs.PhiLemmas.{PhisSoFar}
use Rattle.llvm_core.proofs.phis.has_late_phi.Given as goal

abbrev pub invariant-loop-inst : goal.invariant-loop-inst
invariant-loop-inst l = PhisSoFar l.m l.insts l.inst-index l.behind
