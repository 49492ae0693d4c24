-- What `examples::answer_means` owes besides what the check finds.
use Rattle.meaning.proofs.ExampleLaws.{same_answer}
use Rattle.meaning.proofs.examples.answer_means.Goals as goal

pub returns-clause-same : goal.returns-clause-same
returns-clause-same c = same_answer
