-- What `module::LLVMModule::takes_list` owes besides what the check finds.
use Rattle.std.proofs.Common.{sym, subst}
use Rattle.std.specs.Prelude.{◌↔◌, IsTrue}
use Rattle.llvm_core.specs.declared.types.LLVMTypeKind.{LLVMTypeKind}
use Rattle.llvm_core.specs.Holding.{TakesList}
use Rattle.llvm_core.proofs.HoldLemmas.{by_one}
use Rattle.llvm_core.proofs.module.LLVMModule.takes_list.Goals as goal

pub returns-in-Array : goal.returns-in-Array
returns-in-Array c =
    let m = c.args.self.now in
    let b = c.are_of_one.result in
    let es = c.args.elements.now in
    subst (λ (k : LLVMTypeKind). IsTrue b ↔ TakesList m.consts m.structs es k) (sym c.in-Array.is) (by_one m.consts b es c.in-Array.count c.in-Array.ty c.are_of_one.ensures)
