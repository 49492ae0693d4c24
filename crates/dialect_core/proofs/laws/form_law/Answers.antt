-- What `laws::form_law` owes.
use Rattle.dialect_core.proofs.FormLaws.{form_of}
use Rattle.dialect_core.proofs.laws.form_law.Goals as goal

pub returns : goal.returns
returns c = form_of
