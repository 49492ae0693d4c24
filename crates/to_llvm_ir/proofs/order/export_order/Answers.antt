-- The order of the dialect, or depth first.
use Rattle.std.proofs.Common.{Bool, length, refl, sym, subst}
use Rattle.std.specs.Prelude.{MatchBool}
use Rattle.block_order.specs.Graph.{IsGraph}
use Rattle.dialect_core.specs.Form.{IsInOrder}
use Rattle.to_llvm_ir.proofs.GraphLaws.{is_graph, counted_answer, searched_answer}
use Rattle.to_llvm_ir.proofs.order.export_order.Goals as goal

pub returns-then-branch : goal.returns-then-branch
returns-then-branch c =
    counted_answer (λ o. o.items) c.args.ctx.now c.args.list.now (length c.args.list.now) c.counted.result
    (λ g h. subst (λ (b : Bool). MatchBool b (IsInOrder g) (¬ IsInOrder g)) c.if-branch.true (c.in_ok-is_in_order.ensures g h)) refl c.counted.ensures

pub rpo-requires : goal.rpo-requires
rpo-requires c = let h = c.requires.blocks in subst IsGraph (sym (c.in_ok-succs.ensures h.0 h.1)) (is_graph h.0)

pub returns : goal.returns
returns c =
    searched_answer (λ o. o.items) c.args.ctx.now c.args.list.now c.in_ok-succs.succs c.rpo.result
    (λ g h. subst (λ (b : Bool). MatchBool b (IsInOrder g) (¬ IsInOrder g)) c.if-branch.false (c.in_ok-is_in_order.ensures g h)) c.in_ok-succs.ensures c.rpo.ensures.depth_first c.rpo.ensures.once c.rpo.ensures.first
