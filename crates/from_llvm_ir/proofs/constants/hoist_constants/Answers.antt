-- What `constants::hoist_constants` owes besides what the check finds.
use Rattle.std.proofs.Common.{sym, subst, List, arith}
use Rattle.std.specs.List.{flat_map}
use Rattle.std.proofs.lemmas.List.{take_all}
use Rattle.llvm_core.specs.Data.{Block, data_of}
use Rattle.from_llvm_ir.specs.Imported.{constants_in, rest_of}
use Rattle.from_llvm_ir.specs.Known.{blocks_of}
use Rattle.from_llvm_ir.specs.Body.{IsHoisting}
use Rattle.from_llvm_ir.specs.Types.{IsReadyFor}
use Rattle.from_llvm_ir.proofs.PlaceLaws.{flat_next}
use Rattle.from_llvm_ir.proofs.SourceLaws.{function_within}
use Rattle.from_llvm_ir.proofs.FrameLaws.{named_at, frame_length}
use Rattle.from_llvm_ir.proofs.KeepLaws.{keeps_then}
use Rattle.from_llvm_ir.proofs.constants.hoist_constants.Goals as goal

pub blocks-blocks-requires : goal.blocks-blocks-requires
blocks-blocks-requires g c = function_within c.args.source.now c.args.f c.requires.0.source c.requires.1.source

pub bounds-blocks-place : goal.bounds-blocks-place
bounds-blocks-place g c = (named_at c.args.source.now c.args.f c.requires.0 c.args.order.now c.blocks-blocks.result.now c.loop-place.place-index c.requires.1 c.requires.2 c.blocks-blocks.ensures.blocks c.loop-place-test.true).within

pub hoist_block-requires-clause-site : goal.hoist_block-requires-clause-site
hoist_block-requires-clause-site g c =
    let r = c.requires in
    let x = named_at c.args.source.now c.args.f r.0 c.args.order.now c.blocks-blocks.result.now c.loop-place.place-index r.1 r.2 c.blocks-blocks.ensures.blocks c.loop-place-test.true in
    let structs = (c.loop-place.invariant.hoisting r.0 r.1 r.2 r.3 r.4 r.5).under.structs in
    (c.args.f, r.0.source, _, x.block, r.1.source, r.3, x.is, subst (IsReadyFor r.0.source) (sym structs) r.1.ready)

pub loop-place-preserved : goal.loop-place-preserved
loop-place-preserved g c = record {
  hoisting = λ fr framed order noted hoisting number.
      let m = c.args.source.now in
      let x = named_at m c.args.f fr c.args.order.now c.blocks-blocks.result.now c.loop-place.place-index framed order c.blocks-blocks.ensures.blocks c.loop-place-test.true in
      subst (IsHoisting fr m c.hoist_block.new.ctx c.hoist_block.new.values) (sym (flat_next (λ (b : Block). flat_map (constants_in (data_of m) fr.source b) (rest_of b)) (blocks_of fr) c.loop-place.place-index x.block x.here))
      (c.in_ok-hoist_block.ensures.hoisting c.args.f fr.source _ x.block framed.source noted x.is fr _ (c.loop-place.invariant.hoisting fr framed order noted hoisting number) number);
  kept = λ n b behind. keeps_then n b c.args.ctx.now c.loop-place.ctx c.hoist_block.new.ctx (c.loop-place.invariant.kept n b behind) (c.hoist_block.ensures.kept n b behind);
}

pub returns-clause-hoisting : goal.returns-clause-hoisting
returns-clause-hoisting g c = λ fr framed order noted hoisting number.
    let m = c.args.source.now in
    subst (λ (bs : List Block). IsHoisting fr m c.loop-place.ctx c.loop-place.values (flat_map (λ (b : Block). flat_map (constants_in (data_of m) fr.source b) (rest_of b)) bs)) (take_all c.loop-place.place-index (blocks_of fr) (omega (arith, frame_length m c.args.f fr c.args.order.now framed order, c.loop-place-test.false)))
    (c.loop-place.invariant.hoisting fr framed order noted hoisting number)

pub returns-in_err-hoist_block-clause-kept : goal.returns-in_err-hoist_block-clause-kept
returns-in_err-hoist_block-clause-kept g c = λ n b behind. keeps_then n b c.args.ctx.now c.loop-place.ctx c.hoist_block.new.ctx (c.loop-place.invariant.kept n b behind) (c.hoist_block.ensures.kept n b behind)

pub returns-clause-kept : goal.returns-clause-kept
returns-clause-kept g c = c.loop-place.invariant.kept
