-- What `run::read_moves` owes besides what the check finds.
use Rattle.std.proofs.Common.{subst, ap, ◌∙◌, ◌∷◌, [], arith, length-append, ◌≤◌, length}
use Rattle.std.proofs.lemmas.List.{take_all}
use Rattle.tracing.specs.Bodies.{moves_from}
use Rattle.tracing.specs.Runs.{AllNamed}
use Rattle.tracing.specs.declared.body.Slot.TheVariants.{Input}
use Rattle.tracing.proofs.MoveLaws.{taken, moves_read}
use Rattle.tracing.proofs.run.read_moves.Goals as goal

pub loop-at-preserved : goal.loop-at-preserved
loop-at-preserved c = record {
  at = λ now s typed h.
      let v = c.loop-at.invariant.at now s typed h in
      let n = rw (c.given_at.ensures.source now.terms) at (c.in_ok-place.ensures.at now s (c.given_at.ensures.known now typed) v.0) in (
        n.0,
        rw c.in_ok-push.ensures.items
            (moves_read now c.loop-at.run.table c.read_given.new.run.table s.env c.args.params.now c.args.sources.now c.loop-at.at (Input 0 0) c.loop-at.places.items c.in_ok-place.place c.loop-at-test.true (c.in_ok-place.ensures.kept now.types) v.1 n.1),
      );
  len = ap length c.in_ok-push.ensures.items ∙ omega (arith, length-append c.loop-at.places.items (c.in_ok-place.place ∷ []), c.loop-at.invariant.len);
}

pub returns-clause-at : goal.returns-clause-at
returns-clause-at c = λ now s typed h.
    let v = c.loop-at.invariant.at now s typed h in
    let within : length c.args.params.now ≤ c.loop-at.at = omega arith in
    let all = ap (λ ps. taken s.env (moves_from now.terms 0 ps c.args.sources.now)) (take_all c.loop-at.at c.args.params.now within) in
    (v.0, subst (AllNamed now.types c.loop-at.run.table c.loop-at.places.items) all v.1)
