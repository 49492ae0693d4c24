-- What `module::LLVMModule::are_of_named` owes besides what the check finds.
use Rattle.std.proofs.Common.{List}
use Rattle.llvm_core.specs.declared.numbers.LLVMType.{LLVMType}
use Rattle.llvm_core.specs.Consts.{HasFields}
use Rattle.llvm_core.specs.Holding.{AreOf}
use Rattle.llvm_core.proofs.HoldLemmas.{never}
use Rattle.llvm_core.proofs.module.LLVMModule.are_of_named.Goals as goal

pub returns-in-None : goal.returns-in-None
returns-in-None c =
    never ((parts : List LLVMType) × HasFields c.args.self.now.structs c.args.name.now parts × AreOf c.args.self.now.consts c.args.elements.now parts) (λ x. c.in-None.ensures.none x.0 x.1)
