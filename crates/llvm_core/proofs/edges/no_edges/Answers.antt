-- What `edges::no_edges` owes besides what the check finds.
use Rattle.std.proofs.Common.{◌∙◌, [], ◌∷◌, ap, arith, length, length-append, refl}
use Rattle.llvm_core.proofs.EdgeLemmas.{tally_none}
use Rattle.llvm_core.proofs.edges.no_edges.Goals as goal

pub loop-block-init : goal.loop-block-init
loop-block-init c = record {
  len = ap length c.in_ok-lists.ensures.items;
  none = rw c.in_ok-lists.ensures.items (λ p b. refl);
}

pub loop-block-preserved : goal.loop-block-preserved
loop-block-preserved c = record {
  len = ap length c.in_ok-push.ensures.items ∙ length-append c.loop-block.lists.items (c.zero.result ∷ []) ∙ omega arith;
  none = rw c.in_ok-push.ensures.items (tally_none c.loop-block.lists.items c.zero.result c.loop-block.invariant.none c.zero.ensures);
}
