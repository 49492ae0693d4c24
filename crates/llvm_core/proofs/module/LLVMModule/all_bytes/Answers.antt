-- What `module::LLVMModule::all_bytes` owes besides what the check finds.
use Rattle.std.proofs.Common.{Some, length, sym, ◌∙◌, ap, arith}
use Rattle.std.proofs.lemmas.Option.{slice_get_within, slice_get-get_or}
use Rattle.llvm_core.specs.Module.{Module}
use Rattle.llvm_core.proofs.FormSteps.{ints_go_on, no_ints, int_few}
use Rattle.llvm_core.proofs.module.LLVMModule.all_bytes.Goals as goal

pub int_at-requires : goal.int_at-requires
int_at-requires c =
    let short = c.requires c.loop-element.element-index (record { 0 = 0 }) c.loop-element-test.true in
    let within = slice_get_within c.args.self.now.consts _ short.0 short.1 in
    omega (arith, within, ap (λ (m : Module). length m.consts) c.self.view_is)

pub overflow_cast-value : goal.overflow_cast-value
overflow_cast-value c = record {
  fits = int_few c.args.self.now.consts _ c.in-Some.value (c.requires c.loop-element.element-index (record { 0 = 0 }) c.loop-element-test.true) (sym c.in-Some.is ∙ c.int_at.ensures);
}

pub returns-in-None : goal.returns-in-None
returns-in-None c =
    let here = slice_get-get_or c.args.elements.now c.loop-element.element-index (record { 0 = 0 }) c.loop-element-test.true in
    sym (no_ints c.args.self.now.consts c.args.elements.now c.loop-element.element-index _ here (sym c.in-None.is ∙ c.int_at.ensures))

pub loop-element-preserved : goal.loop-element-preserved
loop-element-preserved c =
    let here = slice_get-get_or c.args.elements.now c.loop-element.element-index (record { 0 = 0 }) c.loop-element-test.true in
    ints_go_on c.args.self.now.consts c.args.elements.now c.loop-element.element-index _ c.loop-element.bytes c.in-Some.value here c.loop-element.invariant (sym c.in-Some.is ∙ c.int_at.ensures)
    ∙ ap Some (sym c.in_ok-push-in-Some.ensures.ok)
