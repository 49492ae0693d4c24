-- What `value_tests::are_past_firsts` owes besides what the check finds.
use Rattle.std.proofs.Common.{subst, sym, ◌∙◌, arith}
use Rattle.dialect_core.specs.declared.ops.Successor.{Successor}
use Rattle.dialect_core.specs.WellFormed.{IsFirst}
use Rattle.dialect_core.proofs.TestLemmas.{all_more, always, never, no_true}
use Rattle.dialect_core.proofs.value_tests.are_past_firsts.Goals as goal

pub returns-then-is_first_block : goal.returns-then-is_first_block
returns-then-is_first_block c =
    let P : Successor → Type 0 = λ s. ¬ IsFirst c.args.ctx.now s.block in
    let past = λ (all : _). subst P (sym c.edge-item.is) (all c.loop-edge.edge-index c.edge-item.result (omega arith)) in
    never (λ all. past all (c.is_first_block.ensures.0 c.if-is_first_block.true))

pub loop-edge-preserved : goal.loop-edge-preserved
loop-edge-preserved c =
    let P : Successor → Type 0 = λ s. ¬ IsFirst c.args.ctx.now s.block in
    all_more P c.args.edges.now c.loop-edge.edge-index c.edge-item.result c.loop-edge.invariant (omega arith)
    (subst P c.edge-item.is (λ w. no_true (sym c.if-is_first_block.false ∙ c.is_first_block.ensures.1 w)))

pub returns : goal.returns
returns c = always (λ k d l. c.loop-edge.invariant k d (omega arith))
