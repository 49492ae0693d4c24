-- What `examples::mixed_means` owes besides what the check finds.
use Rattle.meaning.proofs.MixedExample.{mixed}
use Rattle.meaning.proofs.examples.mixed_means.Goals as goal

pub returns-clause-shape : goal.returns-clause-shape
returns-clause-shape c = mixed
