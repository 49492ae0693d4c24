-- What `lacks::operand_lack` owes besides what the check finds.
use Rattle.std.proofs.Common.{All, refl, subst}
use Rattle.std.proofs.lemmas.List.{take_all}
use Rattle.llvm_core.specs.declared.code.LLVMValue.TheVariants as V
use Rattle.held_types.specs.Lacks.{LacksNone}
use Rattle.held_types.proofs.LackLaws.{all_more}
use Rattle.held_types.proofs.lacks.operand_lack.Goals as goal

pub loop-value-preserved : goal.loop-value-preserved
loop-value-preserved c =
    all_more (LacksNone c.args.m.now) c.args.values.now c.loop-value.value-index (V.Const (record { 0 = 0 })) c.loop-value-test.true c.loop-value.invariant (c.in_default.ensures.none refl)

pub returns-clause-none : goal.returns-clause-none
returns-clause-none c = λ e.
    let whole = take_all c.loop-value.value-index c.args.values.now c.loop-value-test.false in
    subst (All (LacksNone c.args.m.now)) whole c.loop-value.invariant
