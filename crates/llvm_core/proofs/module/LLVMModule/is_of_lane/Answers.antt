-- What `module::LLVMModule::is_of_lane` owes besides what the check finds.
use Rattle.std.proofs.Common.{sym, subst}
use Rattle.std.specs.Prelude.{◌↔◌, IsTrue}
use Rattle.kinds.specs.declared.types.VectorTypeKind.{VectorTypeKind}
use Rattle.llvm_core.specs.declared.types.LLVMTypeKind.TheVariants as T
use Rattle.llvm_core.specs.Pieces.{FitsKind}
use Rattle.llvm_core.proofs.PlaceLemmas.{by_count}
use Rattle.llvm_core.proofs.module.LLVMModule.is_of_lane.Goals as goal

pub returns-in-Fixed : goal.returns-in-Fixed
returns-in-Fixed c =
    let m = c.args.self.now in
    let b = c.is_of_one.result in
    let fits = by_count m c.args.place c.args.element b c.args.count c.args.ty c.is_of_one.ensures in
    subst (λ (n : VectorTypeKind). IsTrue b ↔ FitsKind m (T.Vector n c.args.count c.args.ty) c.args.place c.args.element) (sym c.in-Fixed.is) fits
