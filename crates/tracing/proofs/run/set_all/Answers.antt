-- What `run::set_all` owes besides what the check finds.
use Rattle.std.proofs.Common.{◌∙◌, ◌<◌, length, get_or, refl, ap, arith}
use Rattle.meaning.specs.Terms.{Term, Unset}
use Rattle.tracing.specs.declared.body.Slot.{Slot}
use Rattle.tracing.specs.declared.body.Slot.TheVariants.{Input}
use Rattle.tracing.specs.Runs.{Names}
use Rattle.tracing.proofs.RunLaws.{at_alike}
use Rattle.tracing.proofs.MoveLaws.{named_at, named_length, set_step, with_all}
use Rattle.tracing.proofs.run.set_all.Goals as goal

pub loop-at-preserved : goal.loop-at-preserved
loop-at-preserved c = record {
  table = c.in_ok-set.ensures.table ∙ c.loop-at.invariant.table;
  at = λ now s ts h named.
      let v = c.loop-at.invariant.at now s ts h named in
      let count = named_length now.types c.args.run.now.table c.args.places.now ts named in
      let in_places : c.loop-at.at < length c.args.places.now = omega (arith, c.requires, c.loop-at-test.true) in
      let in_terms : c.loop-at.at < length ts = omega (arith, count, in_places) in
      let here : Names now.types c.loop-at.run.table (get_or c.args.places.now c.loop-at.at 0) (get_or ts c.loop-at.at Unset) = rw c.loop-at.invariant.table (named_at now.types c.args.run.now.table c.args.places.now ts c.loop-at.at 0 Unset in_places named) in
      let step = set_step s.env c.args.slots.now ts c.loop-at.at (Input 0 0) Unset c.loop-at-test.true in_terms in
      at_alike now c.set.new.run _ _ refl (λ w. ap (λ (f : Slot → Term). f w) step) refl refl (c.in_ok-set.ensures.at now _ (get_or ts c.loop-at.at Unset) v here);
}

pub returns : goal.returns
returns c = λ now s ts h named.
    let count = named_length now.types c.args.run.now.table c.args.places.now ts named in
    let v = c.loop-at.invariant.at now s ts h named in
    with_all now c.loop-at.run s c.args.slots.now ts c.loop-at.at (omega arith) (omega (arith, count, c.requires)) v
