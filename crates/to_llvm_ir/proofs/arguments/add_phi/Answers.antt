-- The phi stands for the argument.
use Rattle.std.proofs.Common.{ℕ, None, refl, sym, subst, ap}
use Rattle.support.proofs.ResultLaws.{both}
use Rattle.kinds.proofs.HeldLaws.{held_result_if}
use Rattle.llvm_core.specs.Module.{Module}
use Rattle.llvm_core.specs.Parts.{IsBlock}
use Rattle.llvm_core.specs.declared.code.LLVMValue.TheVariants as V
use Rattle.llvm_core.specs.declared.code.LLVMInst.TheVariants as I
use Rattle.dialect_types.specs.Trees.{type_at, type_trees}
use Rattle.dialect_core.specs.declared.ops.Value.TheVariants.{Argument}
use Rattle.to_llvm_ir.specs.Exported.{value_name}
use Rattle.to_llvm_ir.specs.States.{found}
use Rattle.to_llvm_ir.proofs.ValueLaws.{IsSet}
use Rattle.to_llvm_ir.proofs.ArgumentLaws.{phi_more}
use Rattle.to_llvm_ir.proofs.arguments.add_phi.Goals as goal

pub value_type-requires-clause-held : goal.value_type-requires-clause-held
value_type-requires-clause-held c = held_result_if _ c.requires.held

pub build_result-requires-clause-block : goal.build_result-requires-clause-block
build_result-requires-clause-block c = subst (λ (m : Module). IsBlock m c.args.target) (sym c.in_ok-ty.ensures.rest) c.requires.target

pub returns : goal.returns
returns c = λ t p b at here arg start.
    let type = c.in_ok-ty.ensures in
    let built = c.in_ok-phi.ensures in
    both c.set.result c.set.ensures.next c.set.ensures.found
    (λ _ next set.
    let is_set = subst (λ (q : ℕ). IsSet (found c.args.values.now) (found c.set.new.self) (Argument c.args.block q) (V.Inst c.in_ok-phi.phi)) c.in_ok-place.ensures set in
    phi_more c.args.ctx.now t p b c.args.block c.args.i (type_at (type_trees c.args.ctx.now.types) c.args.ty) at arg c.args.values.now c.set.new.self c.args.back.now c.value_type.new.back c.build_result.new.back start
    c.in_ok-ty.ty type.tree type.grows type.rest type.data
    (I.Phi c.in_ok-ty.ty c.zero.result) (ap (I.Phi c.in_ok-ty.ty) c.zero.ensures) c.in_ok-phi.phi (value_name None c.args.values.now.next) c.args.target built.ok built.place built.data built.sound
    here refl next is_set)
