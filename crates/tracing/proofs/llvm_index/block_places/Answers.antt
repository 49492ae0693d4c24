-- What `llvm_index::block_places` owes besides what the check finds.
use Rattle.std.proofs.Common.{subst, sym, ap, map, ◌∙◌}
use Rattle.std.proofs.lemmas.List.{take_all}
use Rattle.std.proofs.lemmas.Result.{IfOk-weaker}
use Rattle.llvm_core.specs.declared.numbers.LLVMBasicBlock.{LLVMBasicBlock}
use Rattle.support.specs.Interned.{IsDistinctList}
use Rattle.tracing.proofs.ListLaws.{listed_more}
use Rattle.tracing.proofs.IndexLaws.{some_block}
use Rattle.tracing.proofs.llvm_index.block_places.Goals as goal

pub loop-b-preserved : goal.loop-b-preserved
loop-b-preserved c = record {
  at = c.in_ok-push.ensures.items ∙ listed_more (λ (b : LLVMBasicBlock). b.0) c.loop-b.numbers.items c.args.blocks.now c.loop-b.b-index some_block c.loop-b-test.true c.loop-b.invariant.at;
}

pub places_of-requires : goal.places_of-requires
places_of-requires c =
    let all = c.loop-b.invariant.at ∙ ap (map (λ (b : LLVMBasicBlock). b.0)) (take_all c.loop-b.b-index c.args.blocks.now c.loop-b-test.false) in
    subst IsDistinctList (sym (c.as_slice.ensures.value ∙ all)) c.requires

pub returns : goal.returns
returns c =
    let all = c.loop-b.invariant.at ∙ ap (map (λ (b : LLVMBasicBlock). b.0)) (take_all c.loop-b.b-index c.args.blocks.now c.loop-b-test.false) in
    IfOk-weaker c.places_of.result _ _ (λ places is. is ∙ c.as_slice.ensures.value ∙ all) c.places_of.ensures
