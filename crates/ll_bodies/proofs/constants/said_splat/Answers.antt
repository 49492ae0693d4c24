-- What `constants::said_splat` owes besides what the check finds.
use Rattle.std.proofs.Common.{◌<◌, Option, Some, None, length, sym, ◌∙◌, subst}
use Rattle.std.specs.Prelude.{IfSome}
use Rattle.std.proofs.lemmas.Result.{IfOk-weaker}
use Rattle.llvm_core.specs.declared.numbers.LLVMConst.{LLVMConst}
use Rattle.ll_bodies.proofs.TableLaws.{number_there}
use Rattle.ll_bodies.proofs.KindLaws.{means_same, splat_is}
use Rattle.ll_bodies.proofs.constants.said_splat.Goals as goal

pub returns-in-Some : goal.returns-in-Some
returns-in-Some c =
    let m = c.args.module.now in
    let numbers = c.args.numbers.now in
    let e = sym c.in-Some.is ∙ c.number.ensures in
    IfOk-weaker c.splat.result _ _ (λ o h bytes table meant.
    let there = subst (λ (x : Option LLVMConst). IfSome x (λ (d : LLVMConst). d.0 < length m.consts)) (sym e) (number_there bytes m table (length numbers) numbers meant c.args.said c.requires.said) in
    means_same m _ _ o (splat_is bytes m c.requires.sound table (length numbers) numbers meant c.args.ty c.args.said (Some c.in-Some.c) c.requires.said e) (h there)) c.splat.ensures

pub returns-in-None : goal.returns-in-None
returns-in-None c = λ bytes table meant.
    let numbers = c.args.numbers.now in
    splat_is bytes c.args.module.now c.requires.sound table (length numbers) numbers meant c.args.ty c.args.said None c.requires.said (sym c.in-None.is ∙ c.number.ensures)
