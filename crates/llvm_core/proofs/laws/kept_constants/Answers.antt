-- What `laws::kept_constants` owes besides what the check finds.
use Rattle.llvm_core.proofs.KeptLaws.{kept}
use Rattle.llvm_core.proofs.laws.kept_constants.Goals as goal

pub returns : goal.returns
returns z = λ m sound c k at. kept m k (sound.consts c k at)
