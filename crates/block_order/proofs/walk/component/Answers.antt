-- A step keeps what the walk keeps, and at its end the root was explored.
use Rattle.std.proofs.Common.{◌∙◌, ◌++◌, ◌∷◌, [], ap, slice_set, true, arith, subst, sym, length, vec_len, ◌≡◌}
use Rattle.std.proofs.lemmas.Bool.{eqb-true}
use Rattle.block_order.specs.DepthFirst.{Explores}
use Rattle.block_order.specs.Walking.{state}
use Rattle.block_order.proofs.WalkingLemmas.{IsAt, begins_at, step_keeps, step_falls, ends_at}
use Rattle.block_order.proofs.walk.component.Goals as goal

pub loop-met-init : goal.loop-met-init
loop-met-init c =
    let g = c.args.succs.now in
    let before = c.args.met.now in
    let marked = slice_set before c.args.root true in
    let stack = c.in_ok-push.ensures.items ∙ ap (λ os. os ++ record { node = c.args.root; next = 0 } ∷ []) c.new-stack.ensures.items in
    let begun = begins_at g c.args.root before c.requires.fits c.requires.node c.requires.unmet in
    let none = subst (λ done. IsAt g c.args.root before (state marked (record { node = c.args.root; next = 0 } ∷ []) done)) (sym c.new-done.ensures.items) begun in
    subst (λ os. IsAt g c.args.root before (state marked os c.new-done.result.items)) (sym stack) none

pub step-requires-clause-nodes : goal.step-requires-clause-nodes
step-requires-clause-nodes c = c.loop-met.invariant.nodes

pub loop-met-smaller : goal.loop-met-smaller
loop-met-smaller c =
    step_falls c.args.succs.now c.args.root c.args.met.now (state c.loop-met.met c.loop-met.stack.items c.loop-met.done.items) (state c.step.new.met c.step.new.stack.items c.step.new.done.items) c.requires.graph c.loop-met.invariant c.in_ok-step.ensures

pub loop-met-preserved : goal.loop-met-preserved
loop-met-preserved c =
    step_keeps c.args.succs.now c.args.root c.args.met.now (state c.loop-met.met c.loop-met.stack.items c.loop-met.done.items) (state c.step.new.met c.step.new.stack.items c.step.new.done.items) c.requires.graph c.loop-met.invariant c.in_ok-step.ensures

pub returns : goal.returns
returns c =
    let empty : length c.loop-met.stack.items ≡ 0 = omega (arith, eqb-true (vec_len c.loop-met.stack) 0 (sym c.loop-met-test.ensures), c.loop-met.stack.ok.0) in
    let explored = ends_at c.args.succs.now c.args.root c.args.met.now (state c.loop-met.met c.loop-met.stack.items c.loop-met.done.items) empty c.loop-met.invariant in
    subst (λ part. Explores c.args.succs.now c.args.met.now (c.args.root ∷ []) part c.loop-met.met) (sym c.reverse.ensures.items) explored
