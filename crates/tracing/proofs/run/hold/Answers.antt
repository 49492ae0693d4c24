-- What `run::hold` owes besides what the check finds.
use Rattle.std.proofs.lemmas.Result.{on_ok_weaker}
use Rattle.std.proofs.lemmas.Option.{slice_get-get_or}
use Rattle.meaning.specs.Terms.{Unset}
use Rattle.tracing.specs.Table.{term_at}
use Rattle.tracing.proofs.run.hold.Goals as goal

pub returns : goal.returns
returns c = on_ok_weaker c.set.result (λ f now s known h. let t = term_at now.terms c.args.place in f now s t h (h.constants c.args.place t (slice_get-get_or now.terms c.args.place Unset known))) c.set.ensures.at
