-- What `laws::same_shape_law` owes besides what the check finds.
use Rattle.meaning.proofs.ShapeLaws.{same_shape}
use Rattle.meaning.proofs.laws.same_shape_law.Goals as goal

pub returns : goal.returns
returns c = same_shape
