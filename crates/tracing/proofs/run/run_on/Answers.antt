-- What `run::run_on` owes besides what the check finds.
use Rattle.std.proofs.Common.{subst, sym, ◌∙◌}
use Rattle.tracing.specs.Bodies.{code_of}
use Rattle.tracing.specs.Runs.{IsAt}
use Rattle.tracing.proofs.MoveLaws.{stopped, went, run_stops, run_goes, run_ends}
use Rattle.tracing.proofs.run.run_on.Goals as goal

pub jump-requires : goal.jump-requires
jump-requires c = let r = c.requires in let v = c.loop-choice.invariant.at r.0 r.1 r.2 r.3 in (r.0, v.0, r.2, v.1)

pub returns-then-not-branch : goal.returns-then-not-branch
returns-then-not-branch c = λ now s typed h.
    let v = c.loop-choice.invariant.at now s typed h in
    let j = rw c.if-not-branch.true at (c.in_ok-jump.ensures now v.0 typed v.1) in
    let k = stopped now c.jump.new.run v.0 _ j in
    subst (IsAt now c.jump.new.run) (sym (run_stops (code_of now c.args.code.now.params c.args.code.now.blocks) c.args.choices.now c.loop-choice.choice-index 0 c.loop-choice-test.true v.0 k.0) ∙ v.2) k.1

pub loop-choice-preserved : goal.loop-choice-preserved
loop-choice-preserved c = record {
  at = λ now s typed h.
      let v = c.loop-choice.invariant.at now s typed h in
      let j = rw c.if-not-branch.false at (c.in_ok-jump.ensures now v.0 typed v.1) in
      let k = went now c.jump.new.run v.0 _ j in
      (k.0, k.2, run_goes (code_of now c.args.code.now.params c.args.code.now.blocks) c.args.choices.now c.loop-choice.choice-index 0 c.loop-choice-test.true v.0 k.0 k.1 ∙ v.2);
}

pub returns : goal.returns
returns c = λ now s typed h.
    let v = c.loop-choice.invariant.at now s typed h in
    subst (IsAt now c.loop-choice.run) (sym (run_ends (code_of now c.args.code.now.params c.args.code.now.blocks) c.args.choices.now c.loop-choice.choice-index v.0 c.loop-choice-test.false) ∙ v.2) v.1
