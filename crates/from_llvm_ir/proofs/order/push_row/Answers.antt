-- What `order::push_row` owes besides what the check finds.
use Rattle.std.proofs.Common.{ℕ, ◌∙◌, ap, List, [], ◌∷◌, ◌++◌}
use Rattle.std.proofs.lemmas.Result.{on_ok_weaker}
use Rattle.from_llvm_ir.proofs.SourceLaws.{block_within}
use Rattle.from_llvm_ir.proofs.GraphLaws.{inst_in, insts_more, insts_all}
use Rattle.from_llvm_ir.proofs.order.push_row.Goals as goal

pub instructions-i-items-requires : goal.instructions-i-items-requires
instructions-i-items-requires c = let r = c.requires in block_within c.args.source.now r.1 c.args.block r.3.place r.2 r.3.of_block

pub loop-i-init : goal.loop-i-init
loop-i-init c = λ f g b h are. c.clear.ensures.items

pub push_targets-requires : goal.push_targets-requires
push_targets-requires c =
    let r = c.requires in
    let p = inst_in c.args.source.now r.0 r.1 c.args.block r.2 c.instructions-i-items.result.now c.loop-i.i-index (record { 0 = 0 }) r.3 c.instructions-i-items.ensures.insts c.loop-i-test.true in
    (r.0, r.1, c.args.block, r.2, p.0, p.1, r.4)

pub loop-i-preserved : goal.loop-i-preserved
loop-i-preserved c = λ f g b h are.
    let p = inst_in c.args.source.now f g c.args.block b c.instructions-i-items.result.now c.loop-i.i-index (record { 0 = 0 }) h c.instructions-i-items.ensures.insts c.loop-i-test.true in
    insts_more g b c.loop-i.i-index p.0 c.loop-i.row.items c.push_targets.new.row.items p.2 (c.loop-i.invariant f g b h are) (c.in_ok-push_targets.ensures f g c.args.block b p.0 p.1 are)

pub returns : goal.returns
returns c =
    on_ok_weaker c.push.result
    (λ is f g b h are.
    let row = insts_all c.args.source.now f g c.args.block b c.instructions-i-items.result.now c.loop-i.i-index c.loop-i.row.items h c.instructions-i-items.ensures.insts c.loop-i-test.false (c.loop-i.invariant f g b h are) in
    is ∙ ap (λ (r : List ℕ). c.args.succs.now ++ r ∷ []) (c.as_slice.ensures.value ∙ row)) c.push.ensures.ok
