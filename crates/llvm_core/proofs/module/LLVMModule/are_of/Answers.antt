-- What `module::LLVMModule::are_of` owes besides what the check finds.
use Rattle.std.proofs.Common.{◌<◌, ◌≡◌, true, false, length, sym, ◌∙◌, refl, arith}
use Rattle.std.proofs.lemmas.Option.{slice_get_within}
use Rattle.llvm_core.specs.Holding.{AreOf}
use Rattle.llvm_core.proofs.HoldLemmas.{never, of_more, of_none_at}
use Rattle.llvm_core.proofs.module.LLVMModule.are_of.Goals as goal

pub returns-then-not-is_element : goal.returns-then-not-is_element
returns-then-not-is_element c =
    let consts = c.args.self.now.consts in
    let es = c.args.elements.now in
    let parts = c.args.parts.now in
    let lt : c.loop-i.i < length es = omega (arith, c.loop-i-test.true) in
    let lt_parts : c.loop-i.i < length parts = omega (arith, c.loop-i-test.true, c.if-elements-parts.false) in
    never (AreOf consts es parts) (of_none_at consts es parts c.loop-i.i _ _ lt lt_parts (λ h. let t : true ≡ false = sym (c.is_element.ensures.1 h) ∙ c.if-not-is_element.true in cc))

pub loop-i-preserved : goal.loop-i-preserved
loop-i-preserved c =
    let es = c.args.elements.now in
    let parts = c.args.parts.now in
    let lt : c.loop-i.i < length es = omega (arith, c.loop-i-test.true) in
    let lt_parts : c.loop-i.i < length parts = omega (arith, c.loop-i-test.true, c.if-elements-parts.false) in
    of_more c.args.self.now.consts es parts c.loop-i.i _ _ lt lt_parts c.loop-i.invariant (c.is_element.ensures.0 c.if-not-is_element.false)

pub returns : goal.returns
returns c =
    let es = c.args.elements.now in
    let same : length es ≡ length c.args.parts.now = omega (arith, c.if-elements-parts.false) in
    (λ e. (same, λ j x u at is. let lt = slice_get_within es j x at in c.loop-i.invariant j x u (omega (arith, lt, c.loop-i-test.false)) at is), λ of. refl)
