-- What `run::read_given` owes besides what the check finds.
use Rattle.std.proofs.lemmas.Result.{IfOk-weaker}
use Rattle.support.proofs.ResultLaws.{both}
use Rattle.tracing.proofs.run.read_given.Goals as goal

pub returns-in-Some-clause-at : goal.returns-in-Some-clause-at
returns-in-Some-clause-at c = IfOk-weaker c.read.result _ _ (λ k f now s typed h. rw c.in-Some.is (f now s (rw c.in-Some.is at typed) h)) c.read.ensures.at

pub returns-in-None-clause-at : goal.returns-in-None-clause-at
returns-in-None-clause-at c = both c.intern.result c.intern.ensures.at c.intern.ensures.named (λ k at named now s typed h. (at now s tt h, rw c.in-None.is (named now.types)))
