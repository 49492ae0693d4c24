-- What `run::move_all` owes besides what the check finds.
use Rattle.std.proofs.lemmas.Result.{on_ok_weaker}
use Rattle.tracing.specs.Bodies.{moves_from}
use Rattle.tracing.proofs.MoveLaws.{taken, moved_at}
use Rattle.tracing.proofs.run.move_all.Goals as goal

pub returns : goal.returns
returns c =
    on_ok_weaker c.set_all.result
    (λ f now s typed h.
    let r = c.in_ok-places.ensures.at now s typed h in
    moved_at now c.set_all.new.run s c.args.params.now c.args.sources.now (f now s (taken s.env (moves_from now.terms 0 c.args.params.now c.args.sources.now)) r.0 (rw c.as_slice.ensures.value r.1)))
    c.set_all.ensures
