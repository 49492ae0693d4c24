-- The goals of `phis::has_late_phi` that the tactics leave.
use Rattle.llvm_core.proofs.PhiLemmas.{no_phis}
use Rattle.llvm_core.proofs.phis.has_late_phi.Goals as goal

pub loop-inst-init : goal.loop-inst-init
loop-inst-init c = no_phis _ _
