-- What `module::LLVMModule::is_of_named` owes besides what the check finds.
use Rattle.std.proofs.Common.{refl}
use Rattle.llvm_core.proofs.PlaceLemmas.{by_name}
use Rattle.llvm_core.proofs.module.LLVMModule.is_of_named.Goals as goal

pub returns-in-Some : goal.returns-in-Some
returns-in-Some c = by_name c.args.self.now c.args.place c.args.element c.is_of_field.result c.args.name.now c.in-Some.fields.now (c.in-Some.ensures.some) c.is_of_field.ensures

pub returns-in-None : goal.returns-in-None
returns-in-None c = (λ told parts u fields at. absurd (c.in-None.ensures.none parts fields), λ fits. refl)
