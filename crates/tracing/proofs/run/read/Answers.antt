-- What `run::read` owes besides what the check finds.
use Rattle.std.proofs.lemmas.Result.{IfOk-weaker}
use Rattle.std.proofs.lemmas.Option.{slice_get-get_or}
use Rattle.meaning.specs.Terms.{Unset}
use Rattle.tracing.specs.Table.{term_at}
use Rattle.tracing.proofs.run.read.Goals as goal

pub returns-in-At-clause-at : goal.returns-in-At-clause-at
returns-in-At-clause-at c = IfOk-weaker c.read_slot.result _ _ (λ k f now s typed h. rw c.in-At.is (f now s h)) c.read_slot.ensures.at

pub returns-in-Fixed-clause-at : goal.returns-in-Fixed-clause-at
returns-in-Fixed-clause-at c = λ now s known h.
    let k = c.in-Fixed.place in
    let lt = rw c.in-Fixed.is at known in
    (h, rw c.in-Fixed.is (h.constants k (term_at now.terms k) (slice_get-get_or now.terms k Unset lt)))
