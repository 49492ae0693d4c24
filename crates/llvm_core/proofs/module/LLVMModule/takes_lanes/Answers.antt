-- What `module::LLVMModule::takes_lanes` owes besides what the check finds.
use Rattle.std.proofs.Common.{sym, subst}
use Rattle.std.specs.Prelude.{◌↔◌, IsTrue}
use Rattle.kinds.specs.declared.types.VectorTypeKind.{VectorTypeKind}
use Rattle.llvm_core.specs.declared.types.LLVMTypeKind.TheVariants as T
use Rattle.llvm_core.specs.Holding.{TakesList}
use Rattle.llvm_core.proofs.HoldLemmas.{by_one}
use Rattle.llvm_core.proofs.module.LLVMModule.takes_lanes.Goals as goal

pub returns-in-Fixed : goal.returns-in-Fixed
returns-in-Fixed c =
    let m = c.args.self.now in
    let b = c.are_of_one.result in
    let es = c.args.elements.now in
    subst (λ (n : VectorTypeKind). IsTrue b ↔ TakesList m.consts m.structs es (T.Vector n c.args.count c.args.ty)) (sym c.in-Fixed.is) (by_one m.consts b es c.args.count c.args.ty c.are_of_one.ensures)
