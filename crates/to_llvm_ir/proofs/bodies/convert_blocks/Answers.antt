-- One block more.
use Rattle.std.proofs.Common.{◌≡◌, ◌∙◌, ◌+◌, ℕ, suc, List, Some, length, slice_get, get_or, sym, subst, ap, arith, ⊎_elim}
use Rattle.std.proofs.lemmas.Bool.{cases_eq}
use Rattle.std.proofs.lemmas.Option.{same_Some, slice_get_within, slice_get-get_or, get_or_from_slice_get}
use Rattle.dialect_core.specs.declared.numbers.BlockRef.{BlockRef}
use Rattle.dialect_core.specs.Data.{DialectBlock}
use Rattle.to_llvm_ir.specs.Causes.{IsFuncCause}
use Rattle.to_llvm_ir.specs.Bodies.{IsBlockBegun, IsBlocksBegun, IsBodyAccepted}
use Rattle.to_llvm_ir.specs.States.{Task, IsBetween, turn, first_at}
use Rattle.to_llvm_ir.proofs.ResultLaws.{passed}
use Rattle.to_llvm_ir.proofs.BodyLaws.{none_between, all_between, block_begun, first_there}
use Rattle.to_llvm_ir.proofs.TurnLaws.{named_within, turn_is, turn_at}
use Rattle.to_llvm_ir.proofs.OpeningLaws.{has_params}
use Rattle.to_llvm_ir.proofs.OrderingLaws.{of_blocks}
use Rattle.to_llvm_ir.proofs.bodies.convert_blocks.Goals.{In-loop-place}
use Rattle.to_llvm_ir.proofs.bodies.convert_blocks.Goals as goal

pub loop-place-init : goal.loop-place-init
loop-place-init c = record {
  state = λ t begun. none_between t c.args.f begun.type c.args.blocks.now c.new-values.result c.args.back.now begun.opening c.new-values.ensures.found;
  params = λ t d begun zero at. has_params t begun.are.task.form d c.args.f begun.type c.args.back.now at begun.opening.sound begun.opening.number begun.opening.function;
  accepted = λ t begun k j d lt named at. absurd (omega (arith, lt));
}

pub bounds-list-j : goal.bounds-list-j
bounds-list-j c =
    let t = c.requires.begun.0 in
    let begun = c.requires.begun.1 in
    let lt = named_within (length t.source.blocks) t.numbers.order begun.are.task.order.once c.loop-place.place-index (get_or c.args.order.now c.loop-place.place-index 0)
    (ap (λ (ps : List ℕ). slice_get ps c.loop-place.place-index) (sym begun.order_is) ∙ slice_get-get_or c.args.order.now c.loop-place.place-index 0 c.loop-place-test.true) in
    let count = begun.are.count in
    omega (arith, lt, count)

pub bounds-numbers-j : goal.bounds-numbers-j
bounds-numbers-j c =
    let t = c.requires.begun.0 in
    let begun = c.requires.begun.1 in
    first_there c.args.ctx.now t c.args.list.now c.args.order.now c.loop-place.place-index (get_or c.args.order.now c.loop-place.place-index 0) c.as_slice-numbers.result.now c.args.f c.args.blocks.now c.args.back.now begun
    (λ j d at. ap (λ (ns : List ℕ). slice_get ns j) c.as_slice-numbers.ensures.value ∙ c.in_ok-firsts.ensures t.source (of_blocks c.args.ctx.now t c.args.list.now begun.are) j d at) (slice_get-get_or c.args.order.now c.loop-place.place-index 0 c.loop-place-test.true)

-- the block that the order names at this place, begun
next_block : (c : In-loop-place) (t : Task) → IsBlocksBegun c.args.ctx.now t c.args.list.now c.args.order.now c.args.f c.args.blocks.now c.args.back.now → (d : BlockRef) (n : ℕ)
    → (b : DialectBlock) × IsBlockBegun c.args.ctx.now t (get_or c.args.order.now c.loop-place.place-index 0) b (get_or c.args.list.now (get_or c.args.order.now c.loop-place.place-index 0) d)
    (get_or c.as_slice-numbers.result.now (get_or c.args.order.now c.loop-place.place-index 0) n) c.args.f c.args.blocks.now c.loop-place.values c.loop-place.back
next_block c t begun d n =
    let p = get_or c.args.order.now c.loop-place.place-index 0 in
    let firsts = c.as_slice-numbers.result.now in
    block_begun c.args.ctx.now t c.args.list.now c.args.order.now c.loop-place.place-index d p (get_or firsts p n) c.args.f c.args.blocks.now c.args.back.now c.loop-place.values c.loop-place.back begun (slice_get-get_or c.args.order.now c.loop-place.place-index 0 c.loop-place-test.true)
    (λ b at. get_or_from_slice_get firsts p (first_at t.source p) n (ap (λ (ns : List ℕ). slice_get ns p) c.as_slice-numbers.ensures.value ∙ c.in_ok-firsts.ensures t.source (of_blocks c.args.ctx.now t c.args.list.now begun.are) p b at))
    (c.loop-place.invariant.state t begun) (λ b zero at. c.loop-place.invariant.params t b begun zero at)

pub convert_block-requires-clause-begun : goal.convert_block-requires-clause-begun
convert_block-requires-clause-begun c =
    let t = c.requires.begun.0 in
    let begun = c.requires.begun.1 in
    let b = next_block (goal.at.convert_block-requires-clause-begun c).In-loop-place t begun _ _ in
    (t, b.0, b.1)

pub returns-in_err-convert_block-clause-cause : goal.returns-in_err-convert_block-clause-cause
returns-in_err-convert_block-clause-cause c = λ t begun.
    let b = next_block (goal.at.returns-in_err-convert_block-clause-cause c).In-loop-place t begun _ _ in
    passed c.from_residual-in_err-convert_block.result c.in_err-convert_block.field-0.0 (IsFuncCause c.args.ctx.now t.source) c.from_residual-in_err-convert_block.ensures.1 (c.in_err-convert_block.ensures.cause t b.0 b.1)

pub loop-place-preserved : goal.loop-place-preserved
loop-place-preserved c = record {
  state = λ t begun.
      let i = c.loop-place.place-index in
      let p = get_or c.args.order.now i 0 in
      let named : slice_get t.numbers.order i ≡ Some p = ap (λ (ps : List ℕ). slice_get ps i) (sym begun.order_is) ∙ slice_get-get_or c.args.order.now i 0 c.loop-place-test.true in
      let here = turn_is (length t.source.blocks) t.numbers.order begun.are.task.order.once i p named in
      let one : suc (turn t p) ≡ i + 1 = omega (arith, here) in
      let b = next_block (goal.at.loop-place-preserved c).In-loop-place t begun _ _ in
      subst (λ (j : ℕ). IsBetween t j c.convert_block.new.values c.convert_block.new.back) one (c.in_ok-convert_block.ensures.ok t b.0 b.1);
  params = λ t d begun zero at. absurd (omega (arith, zero));
  accepted = λ t begun k j d lt named at.
      let i = c.loop-place.place-index in
      let p = get_or c.args.order.now i 0 in
      ⊎_elim
      (λ same.
      let b = next_block (goal.at.loop-place-preserved c).In-loop-place t begun _ _ in
      let place : p ≡ j = same_Some p j (sym (slice_get-get_or c.args.order.now i 0 c.loop-place-test.true) ∙ ap (slice_get c.args.order.now) (sym same) ∙ named) in
      let e : b.0 ≡ d = same_Some b.0 d (sym b.1.at.here ∙ ap (slice_get t.source.blocks) place ∙ at) in
      subst (λ (x : DialectBlock). IsBodyAccepted t.numbers.order t.source j x) e (subst (λ (q : ℕ). IsBodyAccepted t.numbers.order t.source q b.0) place (c.in_ok-convert_block.ensures.accepted t b.0 b.1)))
      (λ differs. c.loop-place.invariant.accepted t begun k j d (omega (arith, lt, differs)) named at)
      (cases_eq k i);
}

pub returns-clause-ok : goal.returns-clause-ok
returns-clause-ok c = λ t begun.
    let end : c.loop-place.place-index ≡ length t.numbers.order = let e = c.loop-place-test.false in let f = c.loop-place.auto.place-index-end in let k = ap (λ (ps : List ℕ). length ps) begun.order_is in omega (arith, e, f, k) in
    all_between t begun.are.task.order c.loop-place.values c.loop-place.back (subst (λ (j : ℕ). IsBetween t j c.loop-place.values c.loop-place.back) end (c.loop-place.invariant.state t begun))

pub returns-clause-accepted : goal.returns-clause-accepted
returns-clause-accepted c = λ t begun j d at.
    let named = turn_at (length t.source.blocks) t.numbers.order begun.are.task.order.once j (slice_get_within t.source.blocks j d at) in
    let here : slice_get c.args.order.now (turn t j) ≡ Some j = ap (λ (ps : List ℕ). slice_get ps (turn t j)) begun.order_is ∙ named in
    let lt = slice_get_within c.args.order.now (turn t j) j here in
    let e = c.loop-place-test.false in
    c.loop-place.invariant.accepted t begun (turn t j) j d (omega (arith, lt, e)) here at
