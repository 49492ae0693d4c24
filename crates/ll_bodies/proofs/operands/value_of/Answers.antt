-- What `operands::value_of` owes besides what the check finds.
use Rattle.std.proofs.Common.{subst}
use Rattle.llvm_core.specs.declared.code.LLVMValue.TheVariants as V
use Rattle.ll_bodies.specs.SourceViews.{IsLocalIn}
use Rattle.ll_bodies.proofs.OperandLaws.{if_type}
use Rattle.ll_bodies.proofs.operands.value_of.Goals as goal

pub returns-in-Param : goal.returns-in-Param
returns-in-Param c = λ m sound h there.
    let x = c.in-Param in
    let own = subst (IsLocalIn m) x.is h in
    rw x.is (if_type m sound (V.Param x.f x.place) x.own c.args.ty c.of_type.result own there c.of_type.ensures)

pub returns-in-Result : goal.returns-in-Result
returns-in-Result c = λ m sound h there.
    let x = c.in-Result in
    let own = subst (IsLocalIn m) x.is h in
    rw x.is (if_type m sound (V.Inst x.i) x.own c.args.ty _ own there c.of_type-in-Result.ensures)
