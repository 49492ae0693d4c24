-- What `run::follow` owes besides what the check finds.
use Rattle.std.proofs.lemmas.Result.{on_ok_weaker}
use Rattle.tracing.proofs.run.follow.Goals as goal

pub arrive-requires : goal.arrive-requires
arrive-requires c =
    let r = c.requires in
    (r.0, _, rw c.as_slice-2.ensures r.2.1.0, c.in_ok-move_all.ensures r.0 r.1 (rw c.as_slice.ensures r.2.0) r.3)

pub returns : goal.returns
returns c =
    on_ok_weaker c.arrive.result
    (λ f now s edge target h.
    let m = rw c.as_slice.ensures at (c.in_ok-move_all.ensures now s (rw c.as_slice.ensures edge) h) in
    let a = rw c.as_slice-2.ensures at f in
    a now _ target.0 m)
    c.arrive.ensures
