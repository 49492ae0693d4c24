-- It is read as one file, and that means one module.
use Rattle.llvm_core.specs.Data.{ModuleData}
use Rattle.ll_said.specs.Numbered.{numbered}
use Rattle.ll_text.proofs.ReadLaws.{one_meant}
use Rattle.ll_text.proofs.laws.one_module.Goals as goal

pub returns : goal.returns
returns c = record { meant = one_meant; spelled = λ bytes (d e : ModuleData). one_meant bytes (numbered d) (numbered e) }
