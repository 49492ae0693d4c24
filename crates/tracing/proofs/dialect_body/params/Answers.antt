-- What `dialect_body::params` owes besides what the check finds.
use Rattle.std.proofs.Common.{◌++◌, ◌∷◌, [], ap, sym, map, take, ◌∙◌, List}
use Rattle.std.proofs.lemmas.List.{map-append}
use Rattle.support.proofs.ListLaws.{take_next}
use Rattle.tracing.specs.declared.body.Slot.{Slot}
use Rattle.tracing.specs.DialectEdges.{IsBlockIn, inputs_of}
use Rattle.tracing.proofs.ListLaws.{matched_at, take_whole}
use Rattle.tracing.proofs.DialectBlockLaws.{some_ref}
use Rattle.tracing.proofs.dialect_body.params.Goals as goal

pub loop-b-preserved : goal.loop-b-preserved
loop-b-preserved c = record {
  at = λ h all.
      let bs = h.function.blocks in
      let s = matched_at (IsBlockIn c.args.ctx.now h) c.args.list.now bs c.loop-b.b-index some_ref c.loop-b-test.true all in
      c.in_ok-push.ensures.ok
      ∙ ap (λ (l : List (List Slot)). l ++ c.in_ok-made.made ∷ []) (c.loop-b.invariant.at h all)
      ∙ ap (λ (p : List Slot). map inputs_of (take c.loop-b.b-index bs) ++ p ∷ []) (c.in_ok-made.ensures h s.item s.fits)
      ∙ sym (ap (map inputs_of) (take_next bs c.loop-b.b-index s.item s.at) ∙ map-append inputs_of (take c.loop-b.b-index bs) (s.item ∷ []));
}

pub returns : goal.returns
returns c = λ h all. c.loop-b.invariant.at h all ∙ ap (map inputs_of) (take_whole (IsBlockIn c.args.ctx.now h) c.args.list.now h.function.blocks c.loop-b.b-index c.loop-b-test.false all)
