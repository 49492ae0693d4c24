-- One block more.
use Rattle.std.proofs.Common.{◌≡◌, ◌∙◌, ◌++◌, ℕ, Bool, slice_get, get_or, sym, subst, ap, arith, ⊎_elim}
use Rattle.std.specs.Prelude.{MatchBool}
use Rattle.std.proofs.lemmas.Bool.{cases_eq}
use Rattle.std.proofs.lemmas.Option.{same_Some, slice_get_within, slice_get-get_or}
use Rattle.dialect_core.specs.Data.{DialectBlock}
use Rattle.to_llvm_ir.specs.Exported.{arguments_of}
use Rattle.to_llvm_ir.specs.States.{all_values, seen_before}
use Rattle.to_llvm_ir.specs.Ordering.{AreSeen, HasUsesAmong}
use Rattle.to_llvm_ir.proofs.OrderingLaws.{seen_none, seen_block, block_before, before_block}
use Rattle.to_llvm_ir.proofs.order.is_in_order.Goals as goal

pub loop-block-init : goal.loop-block-init
loop-block-init c = λ g h. (seen_none c.new-seen.result c.new-seen.ensures, λ j b lt at. absurd (omega (arith, lt)))

pub returns-then-not-branch : goal.returns-then-not-branch
returns-then-not-branch c = λ g h order.
    let i = c.loop-block.block-index in
    let b = h.each i (get_or c.args.list.now i (record { 0 = 0 })) (slice_get-get_or c.args.list.now i (record { 0 = 0 }) c.loop-block-test.true) in
    let inv = c.loop-block.invariant g h in
    let P : Type 0 = HasUsesAmong (seen_before g i ++ arguments_of b.0) b.0.ops × AreSeen c.is_block_in_order.new.seen (seen_before g i ++ all_values b.0) in
    let Q : Type 0 = HasUsesAmong (seen_before g i ++ arguments_of b.0) b.0.ops → ⊥ in
    let late = subst (λ (t : Bool). MatchBool t P Q) c.if-not-branch.true (c.in_ok-is_block_in_order.ensures b.0 (seen_before g i) b.1.is inv.0) in
    late (before_block g c.loop-block.block-index b.0 b.1.here order)

pub loop-block-preserved : goal.loop-block-preserved
loop-block-preserved c = λ g h.
    let i = c.loop-block.block-index in
    let b = h.each i (get_or c.args.list.now i (record { 0 = 0 })) (slice_get-get_or c.args.list.now i (record { 0 = 0 }) c.loop-block-test.true) in
    let inv = c.loop-block.invariant g h in
    let P : Type 0 = HasUsesAmong (seen_before g i ++ arguments_of b.0) b.0.ops × AreSeen c.is_block_in_order.new.seen (seen_before g i ++ all_values b.0) in
    let Q : Type 0 = HasUsesAmong (seen_before g i ++ arguments_of b.0) b.0.ops → ⊥ in
    let yes = subst (λ (t : Bool). MatchBool t P Q) c.if-not-branch.false (c.in_ok-is_block_in_order.ensures b.0 (seen_before g i) b.1.is inv.0) in (
      subst (AreSeen c.is_block_in_order.new.seen) (seen_block g i b.0 b.1.here) yes.1,
      λ j d lt at. ⊎_elim
          (λ same.
          let e : b.0 ≡ d = same_Some b.0 d (sym b.1.here ∙ ap (slice_get g.blocks) (sym same) ∙ at) in
          subst (λ (x : DialectBlock). HasUsesAmong (seen_before g j ++ arguments_of x) x.ops) e (subst (λ (k : ℕ). HasUsesAmong (seen_before g k ++ arguments_of b.0) b.0.ops) (sym same) yes.0))
          (λ differs. inv.1 j d (omega (arith, lt, differs)) at)
          (cases_eq j i),
    )

pub returns : goal.returns
returns c = λ g h j k b o at at'.
    let lt = slice_get_within g.blocks j b at in
    let e = c.loop-block-test.false in
    let n = h.count in
    block_before g j b at ((c.loop-block.invariant g h).1 j b (omega (arith, lt, e, n)) at) k o at'
