-- What `run::set_inputs` owes besides what the check finds.
use Rattle.std.proofs.Common.{◌≡◌, ℕ, refl, subst, arith}
use Rattle.meaning.specs.Terms.{Param}
use Rattle.meaning.specs.Machine as M
use Rattle.tracing.specs.declared.body.Slot.{Slot}
use Rattle.tracing.specs.Bodies.{same_slot, start_of}
use Rattle.tracing.specs.Runs.{IsAt}
use Rattle.tracing.proofs.RunLaws.{at_alike}
use Rattle.tracing.proofs.MoveLaws.{start_step}
use Rattle.tracing.proofs.run.set_inputs.Goals as goal

pub loop-place-preserved : goal.loop-place-preserved
loop-place-preserved c = record {
  at = λ now h.
      at_alike now c.set.new.run _ _ refl (start_step c.args.holder c.loop-place.place) refl refl
      (c.in_ok-set.ensures.at now _ (Param c.loop-place.place) (c.in_ok-term.ensures.at now _ tt (c.loop-place.invariant.at now h)) (c.in_ok-term.ensures.named now.types));
}

pub returns : goal.returns
returns c = λ now h.
    let all : c.loop-place.place ≡ c.args.inputs = omega arith in
    subst (λ (n : ℕ). IsAt now c.loop-place.run (M.begin Slot same_slot (start_of c.args.holder n))) all (c.loop-place.invariant.at now h)
