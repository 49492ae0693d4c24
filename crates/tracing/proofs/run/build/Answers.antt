-- What `run::build` owes besides what the check finds.
use Rattle.std.proofs.Common.{subst, List}
use Rattle.std.proofs.lemmas.Result.{on_ok_weaker}
use Rattle.meaning.specs.Terms.{Term, Expr, terms_of}
use Rattle.llvm_core.specs.Data.{type_at}
use Rattle.tracing.specs.Runs.{Names}
use Rattle.tracing.proofs.RunLaws.{named_terms}
use Rattle.tracing.proofs.run.build.Goals as goal

pub returns : goal.returns
returns c =
    on_ok_weaker c.set.result
    (λ f now s ts below h named.
    let expr = λ (us : List Term). Expr c.args.op (type_at now.types c.args.types.now.result) (terms_of us) in
    let at = rw c.from_vec.ensures at (c.in_ok-place.ensures.named now.types) in
    f now s (expr ts) (c.in_ok-place.ensures.at now s below.0 h)
    (subst (λ (us : List Term). Names now.types c.intern.new.run.table c.in_ok-place.place (expr us)) (named_terms now.types c.args.run.now.table c.args.places.items ts named) at))
    c.set.ensures.at
