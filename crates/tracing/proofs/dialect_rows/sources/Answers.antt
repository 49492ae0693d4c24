-- What `dialect_rows::sources` owes besides what the check finds.
use Rattle.std.proofs.Common.{List, map, take, refl, ap, subst}
use Rattle.std.proofs.lemmas.List.{take_all}
use Rattle.dialect_core.specs.declared.ops.Value.{Value}
use Rattle.meaning.specs.Machine.{Operand, At}
use Rattle.tracing.specs.declared.body.Slot.{Slot}
use Rattle.tracing.specs.Bodies.{AreSources}
use Rattle.tracing.specs.DialectBodies.{slot_of}
use Rattle.tracing.proofs.ListLaws.{listed_more}
use Rattle.tracing.proofs.GrowLaws.{no_sources, same_kept, sources_push}
use Rattle.tracing.proofs.DialectLaws.{some_value}
use Rattle.tracing.proofs.dialect_rows.sources.Goals as goal

pub loop-value-init : goal.loop-value-init
loop-value-init c = record { at = λ now. rw c.new-sources.ensures (no_sources now) }

pub loop-value-preserved : goal.loop-value-preserved
loop-value-preserved c = record {
  at = λ now.
      let named = λ (v : Value). let o : Operand Slot = At (slot_of v) in o in
      let before = map named (take c.loop-value.value-index c.args.values.now) in
      let pushed = sources_push now now c.loop-value.sources before _ _ (same_kept now) (c.loop-value.invariant.at now) (λ later more. (ap (λ (s : Slot). let o : Operand Slot = At s in o) c.slot.ensures, tt)) in
      rw c.in_ok-push.ensures.ok
      (subst (AreSources now _) (listed_more named before c.args.values.now c.loop-value.value-index some_value c.loop-value-test.true refl) pushed);
}

pub returns : goal.returns
returns c = λ now.
    subst (λ (vs : List Value). AreSources now c.loop-value.sources (map (λ (v : Value). let o : Operand Slot = At (slot_of v) in o) vs)) (take_all c.loop-value.value-index c.args.values.now c.loop-value-test.false) (c.loop-value.invariant.at now)
