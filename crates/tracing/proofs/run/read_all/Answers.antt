-- What `run::read_all` owes besides what the check finds.
use Rattle.std.proofs.Common.{subst, ap, map}
use Rattle.std.proofs.lemmas.List.{take_all}
use Rattle.meaning.specs.Machine as M
use Rattle.tracing.specs.Bodies.{source_of}
use Rattle.tracing.specs.Runs.{AllNamed}
use Rattle.tracing.proofs.RunLaws.{all_below, reads_step, some_source}
use Rattle.tracing.proofs.run.read_all.Goals as goal

pub loop-source-preserved : goal.loop-source-preserved
loop-source-preserved c = record {
  at = λ now s typed h.
      let v = c.loop-source.invariant.at now s typed h in
      let n = c.in_ok-place.ensures.at now s (typed c.loop-source.source-index some_source c.loop-source-test.true) v.0 in (
        n.0,
        rw c.in_ok-push.ensures.items
            (reads_step now c.loop-source.run.table c.read.new.run.table s.env c.args.sources.now c.loop-source.source-index some_source c.loop-source.places.items c.in_ok-place.place c.loop-source-test.true (c.in_ok-place.ensures.kept now.types) v.1 n.1),
      );
}

pub returns-clause-within : goal.returns-clause-within
returns-clause-within c =
    let v = c.loop-source.invariant.at c.requires.0 c.requires.1 c.requires.2 c.requires.3 in
    all_below c.requires.0.types c.loop-source.run.table c.loop-source.places.items _ v.1

pub returns-clause-at : goal.returns-clause-at
returns-clause-at c = λ now s typed h.
    let v = c.loop-source.invariant.at now s typed h in
    let all = ap (λ xs. map (M.read s.env) (map (source_of now.terms) xs)) (take_all c.loop-source.source-index c.args.sources.now c.loop-source-test.false) in
    (v.0, subst (AllNamed now.types c.loop-source.run.table c.loop-source.places.items) all v.1)
