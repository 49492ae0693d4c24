-- What `dialect_body::block_places` owes besides what the check finds.
use Rattle.std.proofs.Common.{subst, sym, ap, map, ◌∙◌}
use Rattle.std.proofs.lemmas.List.{take_all}
use Rattle.std.proofs.lemmas.Result.{IfOk-weaker}
use Rattle.dialect_core.specs.declared.numbers.BlockRef.{BlockRef}
use Rattle.support.specs.Interned.{IsDistinctList}
use Rattle.tracing.proofs.ListLaws.{listed_more}
use Rattle.tracing.proofs.DialectBlockLaws.{some_ref}
use Rattle.tracing.proofs.dialect_body.block_places.Goals as goal

pub loop-b-preserved : goal.loop-b-preserved
loop-b-preserved c = record {
  at = c.in_ok-push.ensures.items ∙ listed_more (λ (b : BlockRef). b.0) c.loop-b.numbers.items c.args.list.now c.loop-b.b-index some_ref c.loop-b-test.true c.loop-b.invariant.at;
}

pub places_of-requires : goal.places_of-requires
places_of-requires c =
    let all = c.loop-b.invariant.at ∙ ap (map (λ (b : BlockRef). b.0)) (take_all c.loop-b.b-index c.args.list.now c.loop-b-test.false) in
    subst IsDistinctList (sym (c.as_slice.ensures.value ∙ all)) c.requires

pub returns : goal.returns
returns c =
    let all = c.loop-b.invariant.at ∙ ap (map (λ (b : BlockRef). b.0)) (take_all c.loop-b.b-index c.args.list.now c.loop-b-test.false) in
    IfOk-weaker c.places_of.result _ _ (λ places is. is ∙ c.as_slice.ensures.value ∙ all) c.places_of.ensures
