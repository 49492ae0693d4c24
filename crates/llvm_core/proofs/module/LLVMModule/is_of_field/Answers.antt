-- What `module::LLVMModule::is_of_field` owes besides what the check finds.
use Rattle.std.proofs.Common.{refl, arith}
use Rattle.std.proofs.lemmas.Option.{slice_get_within, slice_get-get_or}
use Rattle.llvm_core.proofs.PlaceLemmas.{by_field}
use Rattle.llvm_core.proofs.module.LLVMModule.is_of_field.Goals as goal

pub returns-then-place-fields : goal.returns-then-place-fields
returns-then-place-fields c = by_field c.args.self.now c.args.place c.args.element c.is_element.result c.args.fields.now _ (slice_get-get_or c.args.fields.now c.args.place _ c.if-place-fields.true) c.is_element.ensures

pub returns-else-place-fields : goal.returns-else-place-fields
returns-else-place-fields c = (λ told u at. absurd (let lt = slice_get_within c.args.fields.now c.args.place u at in omega (arith, lt, c.if-place-fields.false)), λ fits. refl)
