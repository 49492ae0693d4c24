-- By computing.
use Rattle.ll_rules.proofs.RightLaws.{llvm_right}
use Rattle.ll_rules.proofs.laws.llvm_is_right.Goals as goal

pub returns : goal.returns
returns c = llvm_right
