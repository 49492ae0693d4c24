-- What `laws::well_law` owes.
use Rattle.dialect_core.proofs.WellLaws.{form_is_well_formed}
use Rattle.dialect_core.proofs.laws.well_law.Goals as goal

pub returns : goal.returns
returns c = form_is_well_formed
