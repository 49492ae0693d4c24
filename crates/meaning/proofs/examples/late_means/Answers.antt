-- What `examples::late_means` owes besides what the check finds.
use Rattle.meaning.proofs.WovenExample.{late_shape}
use Rattle.meaning.proofs.examples.late_means.Goals as goal

pub returns-clause-shape : goal.returns-clause-shape
returns-clause-shape c = late_shape
