-- What `module::LLVMModule::are_of_one` owes besides what the check finds.
use Rattle.std.proofs.Common.{◌<◌, ◌≡◌, All, length, refl, subst, arith}
use Rattle.std.proofs.lemmas.List.{take_all}
use Rattle.std.proofs.lemmas.List.Elements.{All-more}
use Rattle.llvm_core.specs.Consts.{IsElement}
use Rattle.llvm_core.proofs.module.LLVMModule.are_of_one.Goals as goal

pub loop-element-preserved : goal.loop-element-preserved
loop-element-preserved c =
    let es = c.args.elements.now in
    let lt : c.loop-element.element-index < length es = omega (arith, c.loop-element-test.true) in
    All-more (IsElement c.args.self.now.consts c.args.ty) es c.loop-element.element-index _ lt c.loop-element.invariant (c.is_element.ensures.0 c.if-not-is_element.false)

pub returns : goal.returns
returns c =
    let es = c.args.elements.now in
    let same : length es ≡ c.args.count = omega (arith, c.if-elements-count.false) in
    let whole = take_all c.loop-element.element-index es (omega (arith, c.loop-element-test.false)) in
    (λ e. (same, subst (All (IsElement c.args.self.now.consts c.args.ty)) whole c.loop-element.invariant), λ of. refl)
