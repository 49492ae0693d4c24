-- What `operations::import_blocks` owes besides what the check finds.
use Rattle.std.proofs.Common.{ℕ, refl, sym, ap, subst, ◌∙◌, arith}
use Rattle.std.proofs.lemmas.Option.{same_Some}
use Rattle.std.specs.Prelude.{IsSome}
use Rattle.dialect_core.specs.declared.numbers.BlockRef.{BlockRef}
use Rattle.dialect_types.specs.Legalised.{GoesOn}
use Rattle.from_llvm_ir.specs.Body.{IsFilled}
use Rattle.held_types.proofs.WalkLaws.{passed_on}
use Rattle.from_llvm_ir.proofs.NameLaws.{goes_same, goes_then}
use Rattle.from_llvm_ir.proofs.SourceLaws.{function_within}
use Rattle.from_llvm_ir.proofs.FrameLaws.{named_at}
use Rattle.from_llvm_ir.proofs.BodyLaws.{begins_at, target_named}
use Rattle.from_llvm_ir.proofs.KeepLaws.{keeps_none, keeps_then}
use Rattle.from_llvm_ir.proofs.operations.import_blocks.Goals as goal

pub blocks-blocks-requires : goal.blocks-blocks-requires
blocks-blocks-requires g c = let r = c.requires c.args.names.now (goes_same c.args.names.now) in function_within c.args.source.now c.args.f r.0.source r.1.source

pub loop-place-init : goal.loop-place-init
loop-place-init g c = record {
  filled = λ fr framed order leads noted filled later. filled;
  grown = goes_same c.args.names.now;
  kept = λ fr framed order leads n b behind. keeps_none n b c.args.ctx.now;
}

pub bounds-blocks-place : goal.bounds-blocks-place
bounds-blocks-place g c = let r = c.requires c.args.names.now (goes_same c.args.names.now) in (named_at c.args.source.now c.args.f r.0 c.args.order.now c.blocks-blocks.result.now c.loop-place.place-index r.1 r.2 c.blocks-blocks.ensures.blocks c.loop-place-test.true).within

pub target_of-block-requires : goal.target_of-block-requires
target_of-block-requires g c =
    let r = c.requires c.args.names.now (goes_same c.args.names.now) in
    let x = named_at c.args.source.now c.args.f r.0 c.args.order.now c.blocks-blocks.result.now c.loop-place.place-index r.1 r.2 c.blocks-blocks.ensures.blocks c.loop-place-test.true in
    subst IsSome (sym (target_named c.args.source.now r.0 c.args.targets.now c.args.order.now c.blocks-blocks.result.now c.loop-place.place-index r.3 x)) refl

pub import_insts-requires : goal.import_insts-requires
import_insts-requires g c = λ given on.
    let r = c.requires given (goes_then c.args.names.now c.loop-place.names given c.loop-place.invariant.grown on) in
    let m = c.args.source.now in
    let x = named_at m c.args.f r.0 c.args.order.now c.blocks-blocks.result.now c.loop-place.place-index r.1 r.2 c.blocks-blocks.ensures.blocks c.loop-place-test.true in
    (r.0, c.args.f, c.loop-place.place-index, x.block, begins_at m c.args.f r.0 c.args.targets.now c.args.entries.now c.loop-place.ctx c.loop-place.values c.args.order.now c.blocks-blocks.result.now c.loop-place.place-index c.target_of-block.result r.1 r.3 r.4 x c.target_of-block.ensures (c.loop-place.invariant.filled r.0 r.1 r.2 r.3 r.4 r.5 (subst (GoesOn c.loop-place.names) (sym r.6) on)), r.6)

pub returns-in_err-import_insts-clause-err : goal.returns-in_err-import_insts-clause-err
returns-in_err-import_insts-clause-err g c =
    passed_on c.from_residual.result c.in_err-import_insts.field-0.0 _ c.from_residual.ensures.1
    (λ fr framed order leads noted filled later.
    let m = c.args.source.now in
    let x = named_at m c.args.f fr c.args.order.now c.blocks-blocks.result.now c.loop-place.place-index framed order c.blocks-blocks.ensures.blocks c.loop-place-test.true in
    c.in_err-import_insts.ensures.err fr c.args.f c.loop-place.place-index x.block (begins_at m c.args.f fr c.args.targets.now c.args.entries.now c.loop-place.ctx c.loop-place.values c.args.order.now c.blocks-blocks.result.now c.loop-place.place-index c.target_of-block.result framed leads noted x c.target_of-block.ensures (c.loop-place.invariant.filled fr framed order leads noted filled (goes_then c.loop-place.names c.import_insts.new.names fr.given c.import_insts.ensures.grows later))) later)

pub loop-place-preserved : goal.loop-place-preserved
loop-place-preserved g c = record {
  filled = λ fr framed order leads noted filled later.
      let m = c.args.source.now in
      let x = named_at m c.args.f fr c.args.order.now c.blocks-blocks.result.now c.loop-place.place-index framed order c.blocks-blocks.ensures.blocks c.loop-place-test.true in
      c.in_ok-import_insts.ensures.ok fr c.args.f c.loop-place.place-index x.block (begins_at m c.args.f fr c.args.targets.now c.args.entries.now c.loop-place.ctx c.loop-place.values c.args.order.now c.blocks-blocks.result.now c.loop-place.place-index c.target_of-block.result framed leads noted x c.target_of-block.ensures (c.loop-place.invariant.filled fr framed order leads noted filled (goes_then c.loop-place.names c.import_insts.new.names fr.given c.import_insts.ensures.grows later))) later;
  grown = goes_then c.args.names.now c.loop-place.names c.import_insts.new.names c.loop-place.invariant.grown c.import_insts.ensures.grows;
  kept = λ fr framed order leads n b behind.
      let x = named_at c.args.source.now c.args.f fr c.args.order.now c.blocks-blocks.result.now c.loop-place.place-index framed order c.blocks-blocks.ensures.blocks c.loop-place-test.true in
      let at = same_Some _ _ (sym c.target_of-block.ensures ∙ target_named c.args.source.now fr c.args.targets.now c.args.order.now c.blocks-blocks.result.now c.loop-place.place-index leads x) in
      keeps_then n b c.args.ctx.now c.loop-place.ctx c.import_insts.new.ctx (c.loop-place.invariant.kept fr framed order leads n b behind) (c.import_insts.ensures.kept n b (omega (arith, behind, ap (λ (y : BlockRef). y.0) at)));
}

pub returns-clause-ok : goal.returns-clause-ok
returns-clause-ok g c = λ fr framed order leads noted filled later.
    subst (λ (n : ℕ). IsFilled fr c.args.source.now c.loop-place.ctx c.loop-place.values n) (omega (arith, c.loop-place-test.false, c.loop-place.auto.place-index-end)) (c.loop-place.invariant.filled fr framed order leads noted filled later)

pub returns-in_err-import_insts-clause-kept : goal.returns-in_err-import_insts-clause-kept
returns-in_err-import_insts-clause-kept g c = λ fr framed order leads n b behind.
    let x = named_at c.args.source.now c.args.f fr c.args.order.now c.blocks-blocks.result.now c.loop-place.place-index framed order c.blocks-blocks.ensures.blocks c.loop-place-test.true in
    let at = same_Some _ _ (sym c.target_of-block.ensures ∙ target_named c.args.source.now fr c.args.targets.now c.args.order.now c.blocks-blocks.result.now c.loop-place.place-index leads x) in
    keeps_then n b c.args.ctx.now c.loop-place.ctx c.import_insts.new.ctx (c.loop-place.invariant.kept fr framed order leads n b behind) (c.import_insts.ensures.kept n b (omega (arith, behind, ap (λ (y : BlockRef). y.0) at)))

pub returns-clause-kept : goal.returns-clause-kept
returns-clause-kept g c = c.loop-place.invariant.kept

pub returns-in_err-import_insts-clause-grows : goal.returns-in_err-import_insts-clause-grows
returns-in_err-import_insts-clause-grows g c = goes_then c.args.names.now c.loop-place.names c.import_insts.new.names c.loop-place.invariant.grown c.import_insts.ensures.grows

pub returns-clause-grows : goal.returns-clause-grows
returns-clause-grows g c = c.loop-place.invariant.grown
