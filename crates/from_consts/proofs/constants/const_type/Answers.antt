-- What `constants::const_type` owes besides what the check finds.
use Rattle.std.proofs.Common.{sym, subst}
use Rattle.llvm_core.specs.declared.numbers.LLVMType.{LLVMType}
use Rattle.from_consts.specs.Given.{Gives}
use Rattle.from_consts.specs.Parts.{IsWithin}
use Rattle.from_consts.proofs.ConstantLaws.{type_is}
use Rattle.from_consts.proofs.constants.const_type.Goals as goal

pub returns-clause-gives : goal.returns-clause-gives
returns-clause-gives c =
    let m = c.args.«module».now in
    subst (λ (t : LLVMType). Gives m (λ (u : LLVMType). IsWithin m u t) c.args.ctx.now c.args.cctx.now c.convert_type.new.ctx c.convert_type.new.cctx) (sym (type_is m c.args.c c.type_of-ty.result c.type_of-ty.ensures.ty)) c.convert_type.ensures.gives
