-- What `module::LLVMModule::is_of_place` owes besides what the check finds.
use Rattle.std.proofs.Common.{sym, subst}
use Rattle.std.specs.Prelude.{◌↔◌, IsTrue}
use Rattle.llvm_core.specs.declared.types.LLVMTypeKind.{LLVMTypeKind}
use Rattle.llvm_core.specs.Pieces.{FitsKind}
use Rattle.llvm_core.proofs.PlaceLemmas.{by_count}
use Rattle.llvm_core.proofs.module.LLVMModule.is_of_place.Goals as goal

pub returns-in-Array : goal.returns-in-Array
returns-in-Array c =
    let m = c.args.self.now in
    let b = c.is_of_one.result in
    let fits = by_count m c.args.place c.args.element b c.in-Array.count c.in-Array.ty c.is_of_one.ensures in
    subst (λ (k : LLVMTypeKind). IsTrue b ↔ FitsKind m k c.args.place c.args.element) (sym c.in-Array.is) fits
