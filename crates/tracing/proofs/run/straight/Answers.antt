-- What `run::straight` owes besides what the check finds.
use Rattle.std.proofs.Common.{subst, sym}
use Rattle.std.proofs.lemmas.List.Elements.{All-get_or}
use Rattle.tracing.specs.Bodies.{IsKnownRow}
use Rattle.tracing.specs.Runs.{IsAt}
use Rattle.tracing.proofs.RunLaws.{straight_step}
use Rattle.tracing.proofs.run.straight.Goals as goal

pub apply-requires : goal.apply-requires
apply-requires c =
    let r = c.requires in
    (r.0, _, subst (IsKnownRow r.0) (sym c.row-item.is) (All-get_or (IsKnownRow r.0) c.args.rows.now c.loop-row.row-index c.row-item.result c.loop-row-test.true r.2), c.loop-row.invariant.at r.0 r.1 r.2 r.3)

pub loop-row-preserved : goal.loop-row-preserved
loop-row-preserved c = record {
  at = λ now s typed h.
      let here = subst (IsKnownRow now) (sym c.row-item.is) (All-get_or (IsKnownRow now) c.args.rows.now c.loop-row.row-index c.row-item.result c.loop-row-test.true typed) in
      subst (IsAt now c.apply.new.run) (sym (straight_step now s c.args.rows.now c.loop-row.row-index c.row-item.result c.loop-row-test.true))
      (rw (← c.row-item.is) (c.in_ok-apply.ensures now _ here (c.loop-row.invariant.at now s typed h)));
}
