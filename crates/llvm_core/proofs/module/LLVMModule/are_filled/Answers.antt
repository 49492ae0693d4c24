-- What `module::LLVMModule::are_filled` owes besides what the check finds.
use Rattle.std.proofs.Common.{ap, sym, ◌∙◌}
use Rattle.std.proofs.lemmas.Option.{slice_get-get_or}
use Rattle.llvm_core.specs.Consts.{is_fill}
use Rattle.llvm_core.proofs.FormSteps.{not_filled}
use Rattle.llvm_core.proofs.module.LLVMModule.are_filled.Goals as goal

pub returns-then-not-is_fill : goal.returns-then-not-is_fill
returns-then-not-is_fill c =
    let here = slice_get-get_or c.args.elements.now c.loop-element.element-index (record { 0 = 0 }) c.loop-element-test.true in
    let not = ap (is_fill c.args.fill) (sym c.fill_at.ensures) ∙ sym c.is_fill.ensures ∙ c.if-not-is_fill.true in
    sym (not_filled c.args.fill c.args.self.now.consts c.args.elements.now c.loop-element.element-index _ here not)
