-- The goals of `edges::push_edges` at its loop and at its end.
use Rattle.std.proofs.Common.{◌≡◌, ◌∙◌, length, sym, arith}
use Rattle.llvm_core.proofs.EdgeLemmas.{none_below, below_next, all_edges}
use Rattle.llvm_core.proofs.edges.push_edges.Goals as goal

pub loop-b-init : goal.loop-b-init
loop-b-init c = record { len = c.requires.lists; counts = λ p b. c.requires.none p b ∙ sym (none_below c.args.m.now p b) }

pub loop-b-preserved : goal.loop-b-preserved
loop-b-preserved c =
    let gains = c.in_ok-push_block_edges.ensures in
    record { len = gains.len ∙ c.loop-b.invariant.len; counts = below_next c.args.m.now c.loop-b.lists _ c.loop-b.b c.loop-b.invariant.counts gains }

pub returns : goal.returns
returns c =
    let last : c.loop-b.b ≡ length c.args.m.now.blocks = omega (arith, c.block_count-b-end.ensures) in
    record { len = c.loop-b.invariant.len; counts = all_edges c.args.m.now c.loop-b.lists c.loop-b.b last c.loop-b.invariant.counts }
