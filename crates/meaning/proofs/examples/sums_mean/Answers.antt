-- What `examples::sums_mean` owes besides what the check finds.
use Rattle.meaning.proofs.ShapeExample.{sums_shape}
use Rattle.meaning.proofs.examples.sums_mean.Goals as goal

pub returns-clause-shape : goal.returns-clause-shape
returns-clause-shape c = sums_shape
