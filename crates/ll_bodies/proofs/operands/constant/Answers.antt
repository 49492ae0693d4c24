-- What `operands::constant` owes besides what the check finds.
use Rattle.std.proofs.Common.{ap, ◌∙◌, Some, None, if◌then◌else◌}
use Rattle.kinds.specs.Types.{TypeTree, same_tree}
use Rattle.llvm_core.specs.declared.code.LLVMValue.TheVariants as V
use Rattle.llvm_core.specs.Data.{type_at, const_at, trees_of}
use Rattle.llvm_core.specs.Data as D
use Rattle.ll_bodies.proofs.OperandLaws.{if_type, const_told}
use Rattle.ll_bodies.proofs.operands.constant.Goals as goal

pub returns : goal.returns
returns c =
    let m = c.args.source.now.module.now in
    let s = c.requires.source.sound in
    let told = const_told m s c.args.c _ c.requires.constant c.type_of.ensures.ty in
    ap (λ (τ : TypeTree). if same_tree τ (type_at (trees_of m).types c.args.ty) then Some (D.Constant (const_at (trees_of m).consts c.args.c)) else None) told
    ∙ if_type m s (V.Const c.args.c) _ c.args.ty _ c.type_of.ensures.within c.requires.ty c.of_type.ensures
