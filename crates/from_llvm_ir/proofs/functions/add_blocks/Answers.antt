-- What `functions::add_blocks` owes besides what the check finds.
use Rattle.std.proofs.Common.{◌≡◌, ◌+◌, ◌∙◌, ap, sym, subst, length, slice_get, arith}
use Rattle.dialect_types.specs.Legalised.{GoesOn}
use Rattle.from_llvm_ir.specs.Known.{blocks_of}
use Rattle.from_llvm_ir.specs.Body.{HasHeads}
use Rattle.from_llvm_ir.proofs.NameLaws.{goes_same, goes_then}
use Rattle.from_llvm_ir.proofs.SourceLaws.{function_within, block_number}
use Rattle.from_llvm_ir.proofs.FrameLaws.{named_at, frame_length}
use Rattle.from_llvm_ir.proofs.StartLaws.{blocks_there, order_there, first_at, behind, more_targets, all_targets}
use Rattle.from_llvm_ir.proofs.KeepLaws.{keeps_then}
use Rattle.from_llvm_ir.proofs.functions.add_blocks.Goals as goal

pub blocks-blocks-requires : goal.blocks-blocks-requires
blocks-blocks-requires c = let r = c.requires c.args.names.now (goes_same c.args.names.now) in function_within c.args.source.now c.args.f r.0.source r.1.source

pub bounds-blocks-0 : goal.bounds-blocks-0
bounds-blocks-0 c = let r = c.requires c.args.names.now (goes_same c.args.names.now) in blocks_there c.args.source.now c.args.f r.0.source c.blocks-blocks.result.now r.1.source c.blocks-blocks.ensures.blocks

pub loop-j-init : goal.loop-j-init
loop-j-init c =
    let m = c.args.source.now in
    let r = c.requires c.args.names.now (goes_same c.args.names.now) in
    record {
      behind = omega arith;
      within = (let some = order_there m c.args.f r.0 c.args.order.now r.1 r.2 in omega (arith, some));
      heads = λ fr framed order h later. c.in_ok-first.ensures.heads fr framed h;
      targets = λ fr framed order h later.
          let x = first_at m c.args.f fr c.blocks-blocks.result.now (record { 0 = 0 }) framed c.blocks-blocks.ensures.blocks in
          more_targets m c.args.f fr c.new-targets.result c.set.new.self 0 x.block _ c.in_ok-first.first framed (λ q. c.in_ok-set.ensures q.0) x.here (block_number m fr.source _ 0 x.block x.is)
          (let e = c.in_ok-first.ensures.number fr h in omega (arith, e)) (λ place b lt at. absurd (omega (arith, lt)));
      grown = goes_same c.args.names.now;
      kept = λ n b later. c.add_entry.ensures.kept n b later;
    }

pub bounds-blocks-order : goal.bounds-blocks-order
bounds-blocks-order c = let r = c.requires c.args.names.now (goes_same c.args.names.now) in (named_at c.args.source.now c.args.f r.0 c.args.order.now c.blocks-blocks.result.now c.loop-j.j r.1 r.2 c.blocks-blocks.ensures.blocks c.loop-j-test.true).within

pub add_later_block-requires : goal.add_later_block-requires
add_later_block-requires c = λ given on.
    let r = c.requires given (goes_then c.args.names.now c.loop-j.names given c.loop-j.invariant.grown on) in
    let x = named_at c.args.source.now c.args.f r.0 c.args.order.now c.blocks-blocks.result.now c.loop-j.j r.1 r.2 c.blocks-blocks.ensures.blocks c.loop-j-test.true in
    let p = behind c.loop-j.j c.loop-j.invariant.behind in
    (r.0, c.args.f, p.0, _, x.block, r.1, x.is, ap (slice_get (blocks_of r.0)) (sym p.1) ∙ x.here, subst (HasHeads r.0 c.args.func c.loop-j.ctx) p.1 (c.loop-j.invariant.heads r.0 r.1 r.2 r.3 (subst (GoesOn c.loop-j.names) (sym r.4) on)), r.4)

pub loop-j-preserved : goal.loop-j-preserved
loop-j-preserved c =
    let m = c.args.source.now in
    let ns = c.blocks-blocks.result.now in
    let j = c.loop-j.j in
    let p = behind j c.loop-j.invariant.behind in
    record {
      behind = omega (arith, c.loop-j.invariant.behind);
      within = omega (arith, c.loop-j-test.true);
      heads = λ fr framed order h later.
          let x = named_at m c.args.f fr c.args.order.now ns j framed order c.blocks-blocks.ensures.blocks c.loop-j-test.true in
          let next : p.0 + 2 ≡ j + 1 = omega (arith, p.1) in
          subst (HasHeads fr c.args.func c.add_later_block.new.ctx) next
          (c.in_ok-add_later_block.ensures.heads fr c.args.f p.0 _ x.block framed x.is (ap (slice_get (blocks_of fr)) (sym p.1) ∙ x.here) (subst (HasHeads fr c.args.func c.loop-j.ctx) p.1 (c.loop-j.invariant.heads fr framed order h (goes_then c.loop-j.names c.add_later_block.new.names fr.given c.add_later_block.ensures.grows later))) later);
      targets = λ fr framed order h later.
          let x = named_at m c.args.f fr c.args.order.now ns j framed order c.blocks-blocks.ensures.blocks c.loop-j-test.true in
          more_targets m c.args.f fr c.loop-j.targets c.set-in-loop-j.new.self j x.block _ c.in_ok-add_later_block.field-0 framed (λ q. c.in_ok-set-2.ensures q.0) x.here (block_number m fr.source _ _ x.block x.is)
          (c.in_ok-add_later_block.ensures.number fr j (c.loop-j.invariant.heads fr framed order h (goes_then c.loop-j.names c.add_later_block.new.names fr.given c.add_later_block.ensures.grows later))) (c.loop-j.invariant.targets fr framed order h (goes_then c.loop-j.names c.add_later_block.new.names fr.given c.add_later_block.ensures.grows later));
      grown = goes_then c.args.names.now c.loop-j.names c.add_later_block.new.names c.loop-j.invariant.grown c.add_later_block.ensures.grows;
      kept = λ n b later. keeps_then n b c.args.ctx.now c.loop-j.ctx c.add_later_block.new.ctx (c.loop-j.invariant.kept n b later) (c.add_later_block.ensures.kept n b later);
    }

pub returns-clause-targets : goal.returns-clause-targets
returns-clause-targets c = λ fr framed order h later.
    all_targets fr c.loop-j.targets c.loop-j.j (omega (arith, frame_length c.args.source.now c.args.f fr c.args.order.now framed order, c.loop-j-test.false)) (c.loop-j.invariant.targets fr framed order h later)

pub returns-in_err-add_later_block-clause-kept : goal.returns-in_err-add_later_block-clause-kept
returns-in_err-add_later_block-clause-kept c = λ n b later. keeps_then n b c.args.ctx.now c.loop-j.ctx c.add_later_block.new.ctx (c.loop-j.invariant.kept n b later) (c.add_later_block.ensures.kept n b later)

pub returns-in_err-set-2-clause-kept : goal.returns-in_err-set-2-clause-kept
returns-in_err-set-2-clause-kept c = λ n b later. keeps_then n b c.args.ctx.now c.loop-j.ctx c.add_later_block.new.ctx (c.loop-j.invariant.kept n b later) (c.add_later_block.ensures.kept n b later)

pub add_entry-requires : goal.add_entry-requires
add_entry-requires c = let r = c.requires c.args.names.now (goes_same c.args.names.now) in (r.0, r.1, r.3)

pub returns-in_err-first-clause-kept : goal.returns-in_err-first-clause-kept
returns-in_err-first-clause-kept c = c.add_entry.ensures.kept

pub returns-in_err-set-clause-kept : goal.returns-in_err-set-clause-kept
returns-in_err-set-clause-kept c = c.add_entry.ensures.kept

pub returns-clause-kept : goal.returns-clause-kept
returns-clause-kept c = c.loop-j.invariant.kept

pub returns-clause-heads : goal.returns-clause-heads
returns-clause-heads c = λ fr framed order h later.
    let all : c.loop-j.j ≡ length c.args.order.now = omega (arith, c.loop-j.invariant.within, c.loop-j-test.false) in
    subst (HasHeads fr c.args.func c.loop-j.ctx) all (c.loop-j.invariant.heads fr framed order h later)

pub returns-in_err-first-clause-grows : goal.returns-in_err-first-clause-grows
returns-in_err-first-clause-grows c = goes_same c.args.names.now

pub returns-in_err-set-clause-grows : goal.returns-in_err-set-clause-grows
returns-in_err-set-clause-grows c = goes_same c.args.names.now

pub returns-in_err-add_later_block-clause-grows : goal.returns-in_err-add_later_block-clause-grows
returns-in_err-add_later_block-clause-grows c = goes_then c.args.names.now c.loop-j.names c.add_later_block.new.names c.loop-j.invariant.grown c.add_later_block.ensures.grows

pub returns-in_err-set-2-clause-grows : goal.returns-in_err-set-2-clause-grows
returns-in_err-set-2-clause-grows c = goes_then c.args.names.now c.loop-j.names c.add_later_block.new.names c.loop-j.invariant.grown c.add_later_block.ensures.grows

pub returns-clause-grows : goal.returns-clause-grows
returns-clause-grows c = c.loop-j.invariant.grown
