-- A root that is not met brings what its visit lists, and at the end the order is depth first, of which the rest follows.
use Rattle.std.proofs.Common.{replicate, ◌≡◌, ◌<◌, ◌+◌, ◌++◌, ◌∷◌, [], ℕ, Bool, false, List, Vec, Global, arith, subst, sym, ◌∙◌, ap, length}
use Rattle.std.proofs.lemmas.List.{with_items_is, get_or_read}
use Rattle.block_order.specs.Marks.{IsMet}
use Rattle.block_order.specs.DepthFirst.{Explores, IsDepthFirst}
use Rattle.block_order.proofs.OrderingLemmas.{IsUpTo, begins_up_to, passes_met, appends_part, ends_depth_first}
use Rattle.block_order.proofs.OrderLemmas.{order_once, order_first, order_reached, order_passed, order_onward}
use Rattle.block_order.proofs.ordering.rpo.Goals as goal
use Rattle.block_order.proofs.ordering.rpo.Goals.{then-not-index+in_ok-part+in_ok-extend_from_slice, else-not-index}

-- the record, with marks and order written another way
same_record : (g : List (List ℕ)) (next : ℕ) {met met' : List Bool} {order order' : List ℕ} → met' ≡ met → order' ≡ order → IsUpTo g next met order → IsUpTo g next met' order'
same_record g next {met} {met'} {order} {order'} e f u = subst (λ m. IsUpTo g next m order') (sym e) (subst (IsUpTo g next met) (sym f) u)

pub loop-root-init : goal.loop-root-init
loop-root-init c =
    let marks = c.in_ok-met.ensures.items_if_clones_equal (λ y e. e) ∙ ap (λ n. replicate n false) c.len.ensures.len in
    same_record c.args.succs.now 0 marks c.new-order.ensures.items (begins_up_to c.args.succs.now)

pub loop-root-preserved : goal.loop-root-preserved
loop-root-preserved c =
    let g = c.args.succs.now in
    let next = c.loop-root.root in
    let before = c.loop-root.met.items in
    let within : next < length g = omega arith in
    elim c.if-not-index.branch [
      | then-not-index+in_ok-part+in_ok-extend_from_slice w ↦
          let after = w.component.new.met in
          let part = w.in_ok-part.part.items in
          let visit : Explores g before (next ∷ []) part after = subst (λ m. Explores g m (next ∷ []) part after) w.as_mut_slice.ensures.value w.in_ok-part.ensures in
          let size : length after ≡ length before = omega arith in
          let marks = ap (λ (v : Vec Bool Global). v.items) w.met-is ∙ with_items_is c.loop-root.met after (omega (arith, size, c.loop-root.met.ok.0)) in
          let longer = w.in_ok-extend_from_slice.ensures.items ∙ ap (λ xs. c.loop-root.order.items ++ xs) w.as_slice.ensures.value in
          let order = ap (λ (v : Vec ℕ Global). v.items) w.order-is ∙ longer in
          same_record g (next + 1) marks order (appends_part g next before after c.loop-root.order.items part within size c.loop-root.invariant visit)
      | else-not-index w ↦
          let inside : next < length before = omega (arith, c.loop-root.invariant.fits) in
          let here : IsMet before next = sym (get_or_read before next c.index.result.now inside c.index.ensures false) ∙ w.if-not-index.false in
          let marks = ap (λ (v : Vec Bool Global). v.items) w.met-is in
          let order = ap (λ (v : Vec ℕ Global). v.items) w.order-is in
          same_record g (next + 1) marks order (passes_met g next before c.loop-root.order.items within c.loop-root.invariant here)
    ]

depth_first : (c : goal.After-drop-met-2) → IsDepthFirst c.args.succs.now c.loop-root.order.items
depth_first c =
    let last = subst (λ n. IsUpTo c.args.succs.now n c.loop-root.met.items c.loop-root.order.items) (omega arith) c.loop-root.invariant in
    ends_depth_first c.args.succs.now c.loop-root.met.items c.loop-root.order.items last

pub returns-clause-depth_first : goal.returns-clause-depth_first
returns-clause-depth_first c = depth_first c

pub returns-clause-once : goal.returns-clause-once
returns-clause-once c = order_once c.args.succs.now c.loop-root.order.items c.requires (depth_first c)

pub returns-clause-first : goal.returns-clause-first
returns-clause-first c = order_first c.args.succs.now c.loop-root.order.items c.requires (depth_first c)

pub returns-clause-reached : goal.returns-clause-reached
returns-clause-reached c = order_reached c.args.succs.now c.loop-root.order.items c.requires (depth_first c)

pub returns-clause-passed : goal.returns-clause-passed
returns-clause-passed c = order_passed c.args.succs.now c.loop-root.order.items c.requires (depth_first c)

pub returns-clause-onward : goal.returns-clause-onward
returns-clause-onward c = order_onward c.args.succs.now c.loop-root.order.items c.requires (depth_first c)
