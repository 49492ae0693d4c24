-- What `laws::checked_is_form` owes besides what the check finds.
use Rattle.llvm_core.proofs.CheckedForm.{form_of_checked}
use Rattle.llvm_core.proofs.laws.checked_is_form.Goals as goal

pub returns : goal.returns
returns c = λ m sound apart checked narrow. form_of_checked m sound checked narrow
