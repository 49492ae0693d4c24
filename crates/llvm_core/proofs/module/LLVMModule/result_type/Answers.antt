-- What `module::LLVMModule::result_type` owes besides what the check finds.
use Rattle.llvm_core.specs.declared.code.LLVMInst.TheVariants.{Row}
use Rattle.llvm_core.proofs.WithinLemmas.{result_over}
use Rattle.llvm_core.proofs.module.LLVMModule.result_type.Goals as goal

pub returns-in-Row-clause-within : goal.returns-in-Row-clause-within
returns-in-Row-clause-within c =
    let values = rw c.in-Row.is at c.requires in
    result_over c.args.self.now (Row c.in-Row.row) (rw (← c.self.view_is) c.self.invariant) values c.row_result.result c.row_result.ensures
