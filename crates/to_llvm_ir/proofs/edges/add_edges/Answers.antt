-- One block more.
use Rattle.std.proofs.Common.{◌≡◌, ◌∙◌, ℕ, List, Some, length, slice_get, get_or, sym, subst, ap, arith, ⊎_elim}
use Rattle.std.proofs.lemmas.Bool.{cases_eq}
use Rattle.std.proofs.lemmas.Option.{same_Some, slice_get_within, slice_get-get_or}
use Rattle.dialect_core.specs.Data.{DialectBlock}
use Rattle.to_llvm_ir.specs.Accepted.{AreAcceptedEdges}
use Rattle.to_llvm_ir.specs.Causes.{IsFuncCause}
use Rattle.to_llvm_ir.specs.States.{turn}
use Rattle.to_llvm_ir.proofs.ResultLaws.{passed}
use Rattle.to_llvm_ir.proofs.OpeningLaws.{taken_there}
use Rattle.to_llvm_ir.proofs.TurnLaws.{turn_at}
use Rattle.to_llvm_ir.proofs.LinkedLaws.{entries_to, entries_more, entries_all}
use Rattle.to_llvm_ir.proofs.edges.add_edges.Goals as goal

pub add_block_edges-requires-clause-next : goal.add_block_edges-requires-clause-next
add_block_edges-requires-clause-next c =
    let t = c.requires.begun.0 in
    let are = c.requires.begun.1 in
    let is = c.requires.begun.2 in
    let i = c.loop-place.place-index in
    let p = get_or c.args.order.now i 0 in
    let b = taken_there c.args.ctx.now t c.args.list.now c.args.order.now i p _ are is (slice_get-get_or c.args.order.now i 0 c.loop-place-test.true) in
    (t, p, b.0, entries_to t i, record { at = b.1; mapped = c.requires.begun.3; state = c.loop-place.invariant.state t are is c.requires.begun.3 c.requires.begun.4 })

pub returns-in_err-add_block_edges-clause-cause : goal.returns-in_err-add_block_edges-clause-cause
returns-in_err-add_block_edges-clause-cause c = λ t are is mapped start.
    let i = c.loop-place.place-index in
    let p = get_or c.args.order.now i 0 in
    let b = taken_there c.args.ctx.now t c.args.list.now c.args.order.now i p _ are is (slice_get-get_or c.args.order.now i 0 c.loop-place-test.true) in
    passed c.from_residual.result c.in_err-add_block_edges.field-0.0 (IsFuncCause c.args.ctx.now t.source) c.from_residual.ensures.1
    (c.in_err-add_block_edges.ensures.cause t p b.0 (entries_to t i) (record { at = b.1; mapped = mapped; state = c.loop-place.invariant.state t are is mapped start }))

pub loop-place-preserved : goal.loop-place-preserved
loop-place-preserved c = record {
  state = λ t are is mapped start.
      let i = c.loop-place.place-index in
      let p = get_or c.args.order.now i 0 in
      let b = taken_there c.args.ctx.now t c.args.list.now c.args.order.now i p _ are is (slice_get-get_or c.args.order.now i 0 c.loop-place-test.true) in
      entries_more t i p b.0 c.args.values.now c.add_block_edges.new.back (ap (λ (ps : List ℕ). slice_get ps i) (sym is) ∙ slice_get-get_or c.args.order.now i 0 c.loop-place-test.true) b.1.here
      (c.in_ok-add_block_edges.ensures.ok t p b.0 (entries_to t i) (record { at = b.1; mapped = mapped; state = c.loop-place.invariant.state t are is mapped start }));
  accepted = λ t are is mapped start k j d lt named at.
      let i = c.loop-place.place-index in
      let p = get_or c.args.order.now i 0 in
      let b = taken_there c.args.ctx.now t c.args.list.now c.args.order.now i p _ are is (slice_get-get_or c.args.order.now i 0 c.loop-place-test.true) in
      ⊎_elim
      (λ same.
      let place : p ≡ j = same_Some p j (sym (slice_get-get_or c.args.order.now i 0 c.loop-place-test.true) ∙ ap (slice_get c.args.order.now) (sym same) ∙ named) in
      let e : b.0 ≡ d = same_Some b.0 d (sym b.1.here ∙ ap (slice_get t.source.blocks) place ∙ at) in
      subst (λ (x : DialectBlock). AreAcceptedEdges t.source x) e (c.in_ok-add_block_edges.ensures.accepted t p b.0 (entries_to t i) (record { at = b.1; mapped = mapped; state = c.loop-place.invariant.state t are is mapped start })))
      (λ differs. c.loop-place.invariant.accepted t are is mapped start k j d (omega (arith, lt, differs)) named at)
      (cases_eq k i);
}

pub returns-clause-ok : goal.returns-clause-ok
returns-clause-ok c = λ t are is mapped start.
    entries_all t c.loop-place.place-index c.args.values.now c.loop-place.back (let e = c.loop-place-test.false in let k = ap (λ (ps : List ℕ). length ps) is in omega (arith, e, k)) (c.loop-place.invariant.state t are is mapped start)

pub returns-clause-accepted : goal.returns-clause-accepted
returns-clause-accepted c = λ t are is mapped start j d at.
    let named = turn_at (length t.source.blocks) t.numbers.order are.task.order.once j (slice_get_within t.source.blocks j d at) in
    let here : slice_get c.args.order.now (turn t j) ≡ Some j = ap (λ (ps : List ℕ). slice_get ps (turn t j)) is ∙ named in
    let lt = slice_get_within c.args.order.now (turn t j) j here in
    let e = c.loop-place-test.false in
    c.loop-place.invariant.accepted t are is mapped start (turn t j) j d (omega (arith, lt, e)) here at
