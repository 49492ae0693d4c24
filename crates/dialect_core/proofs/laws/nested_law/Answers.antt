-- What `laws::nested_law` owes.
use Rattle.dialect_core.proofs.NestedLaws.{data_nested}
use Rattle.dialect_core.proofs.laws.nested_law.Goals as goal

pub returns : goal.returns
returns c = data_nested
