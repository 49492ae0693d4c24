-- What `laws::form_is_checked` owes besides what the check finds.
use Rattle.llvm_core.proofs.FormLaws.{checked_of_form}
use Rattle.llvm_core.proofs.laws.form_is_checked.Goals as goal

pub returns : goal.returns
returns c = λ m sound apart form names few. checked_of_form m sound apart form names few
