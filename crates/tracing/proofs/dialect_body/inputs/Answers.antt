-- What `dialect_body::inputs` owes besides what the check finds.
use Rattle.std.proofs.Common.{◌≡◌, ◌++◌, ◌∷◌, [], ℕ, length, sym, ap, ◌∙◌, arith}
use Rattle.tracing.specs.declared.body.Slot.TheVariants.{Input}
use Rattle.tracing.specs.DialectEdges.{inputs_from}
use Rattle.tracing.proofs.DialectBlockLaws.{block_number, inputs_next}
use Rattle.tracing.proofs.dialect_body.inputs.Goals as goal

pub loop-place-preserved : goal.loop-place-preserved
loop-place-preserved c = record {
  at = c.in_ok-push.ensures.ok ∙ ap (λ l. l ++ Input c.args.b.0 c.loop-place.place ∷ []) c.loop-place.invariant.at ∙ sym (inputs_next c.args.b.0 c.loop-place.place);
}

pub returns : goal.returns
returns c = λ h y at.
    let end : c.loop-place.place ≡ c.in_ok-count.count = omega arith in
    c.loop-place.invariant.at
    ∙ ap (inputs_from c.args.b.0 0) (end ∙ c.in_ok-count.ensures h y at)
    ∙ ap (λ (n : ℕ). inputs_from n 0 (length y.args)) (block_number c.args.ctx.now h c.args.b y at)
