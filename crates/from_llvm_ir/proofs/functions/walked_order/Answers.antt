-- What `functions::walked_order` owes besides what the check finds.
use Rattle.std.proofs.Common.{◌∙◌, refl, sym, subst}
use Rattle.block_order.specs.Graph.{IsGraph}
use Rattle.held_types.proofs.WalkLaws.{passed_on}
use Rattle.from_llvm_ir.proofs.GraphLaws.{is_graph}
use Rattle.from_llvm_ir.proofs.OneLaws.{block_alone}
use Rattle.from_llvm_ir.proofs.OrderedLaws.{is_rpo}
use Rattle.from_llvm_ir.proofs.SourceLaws.{function_within, blocks_listed}
use Rattle.from_llvm_ir.proofs.functions.walked_order.Goals as goal

pub text_places-requires : goal.text_places-requires
text_places-requires c = c.requires

pub blocks-requires : goal.blocks-requires
blocks-requires c = function_within c.args.source.now c.args.f c.requires.0 c.requires.1

pub check_uses-requires : goal.check_uses-requires
check_uses-requires c = let s = c.requires in (s.0, s.1, c.in_ok-places.ensures s.0 s.1, sym (blocks_listed c.args.source.now c.args.f s.0 s.1 c.blocks-2.result.now c.blocks-2.ensures.blocks).long ∙ c.if-blocks-eq1.true)

pub returns-in_err-check_uses-clause-err : goal.returns-in_err-check_uses-clause-err
returns-in_err-check_uses-clause-err c =
    passed_on c.from_residual-in_err-check_uses.result c.in_err-check_uses.field-0.0 _ c.from_residual-in_err-check_uses.ensures.1
    (λ g source. c.in_err-check_uses.ensures.err g source (c.in_ok-places.ensures g source) (sym (blocks_listed c.args.source.now c.args.f g source c.blocks-2.result.now c.blocks-2.ensures.blocks).long ∙ c.if-blocks-eq1.true))

pub returns-then-blocks-eq1-clause-rpo : goal.returns-then-blocks-eq1-clause-rpo
returns-then-blocks-eq1-clause-rpo c = λ g source.
    block_alone g source.form (sym (blocks_listed c.args.source.now c.args.f g source c.blocks-2.result.now c.blocks-2.ensures.blocks).long ∙ c.if-blocks-eq1.true) c.in_ok-alone.alone.items (c.in_ok-alone.ensures.items_if_clones_equal (λ y e. e))

pub returns-then-blocks-eq1-clause-dominated : goal.returns-then-blocks-eq1-clause-dominated
returns-then-blocks-eq1-clause-dominated c = λ g source.
    c.in_ok-check_uses.ensures.ok g source (c.in_ok-places.ensures g source) (sym (blocks_listed c.args.source.now c.args.f g source c.blocks-2.result.now c.blocks-2.ensures.blocks).long ∙ c.if-blocks-eq1.true)

pub graph-requires : goal.graph-requires
graph-requires c = let s = c.requires in (s.0, s.1, c.in_ok-places.ensures s.0 s.1)

pub dominance_of-requires-clause-within : goal.dominance_of-requires-clause-within
dominance_of-requires-clause-within c = function_within c.args.source.now c.args.f c.requires.0 c.requires.1

pub rpo-requires : goal.rpo-requires
rpo-requires c = let s = c.requires in subst IsGraph (sym (c.in_ok-succs.ensures s.0 s.1 (c.in_ok-places.ensures s.0 s.1))) (is_graph s.0 s.1.form)

pub dominance_of-requires-clause-graph : goal.dominance_of-requires-clause-graph
dominance_of-requires-clause-graph c = let s = c.requires in subst IsGraph (sym (c.in_ok-succs.ensures s.0 s.1 (c.in_ok-places.ensures s.0 s.1))) (is_graph s.0 s.1.form)

pub check_uses-requires-2 : goal.check_uses-requires-2
check_uses-requires-2 c = let s = c.requires in let places = c.in_ok-places.ensures s.0 s.1 in (s.0, s.1, places, c.in_ok-dominance.ensures ∙ c.in_ok-succs.ensures s.0 s.1 places)

pub returns-in_err-check_uses-2-clause-err : goal.returns-in_err-check_uses-2-clause-err
returns-in_err-check_uses-2-clause-err c =
    passed_on c.from_residual-in_err-check_uses-2.result c.in_err-check_uses-2.field-0.0 _ c.from_residual-in_err-check_uses-2.ensures.1
    (λ g source. let places = c.in_ok-places.ensures g source in c.in_err-check_uses-2.ensures.err g source places (c.in_ok-dominance.ensures ∙ c.in_ok-succs.ensures g source places))

pub returns-clause-rpo : goal.returns-clause-rpo
returns-clause-rpo c = λ g source.
    let o = c.in_ok-order.ensures in
    is_rpo g c.in_ok-succs.succs c.in_ok-order.order.items c.in_ok-order.order.items (c.in_ok-succs.ensures g source (c.in_ok-places.ensures g source)) refl o.depth_first o.once o.first o.reached o.passed

pub returns-clause-dominated : goal.returns-clause-dominated
returns-clause-dominated c = λ g source. let places = c.in_ok-places.ensures g source in c.in_ok-check_uses-2.ensures.ok g source places (c.in_ok-dominance.ensures ∙ c.in_ok-succs.ensures g source places)
