-- A value past the bound, or past 128 bits, stays past it.
use Rattle.std.proofs.Common.{◌+◌, ◌-◌, ◌*◌, ◌∙◌, get_or, drop, refl, sym, arith}
use Rattle.std.proofs.lemmas.List.{at_drop_more}
use Rattle.ll_literals.specs.Numbers.{value_after}
use Rattle.ll_literals.proofs.NumberLaws.{past_by, checked_some, checked_none}
use Rattle.ll_literals.proofs.numbers.value_up_to.Goals as goal

pub returns-in_err-tens : goal.returns-in_err-tens
returns-in_err-tens c =
    let ds = c.args.digits.now in
    let i = c.loop-b.b-index in
    let value = c.loop-b.value in
    let digit = get_or ds i 0 - 48 in
    let more = at_drop_more (value_after value) ds i 0 c.loop-b-test.true in
    let past = checked_none c.checked_mul.result (value * 10) c.args.most c.checked_mul.ensures c.in_err-tens.was c.ranges.most.fits in
    c.from_residual.ensures ∙ past_by c.args.most value digit (value * 10 + digit) _ (drop (i + 1) ds) refl (omega (arith, past)) (sym more ∙ c.loop-b.invariant.so_far)

pub returns-in_err-value : goal.returns-in_err-value
returns-in_err-value c =
    let ds = c.args.digits.now in
    let i = c.loop-b.b-index in
    let value = c.loop-b.value in
    let digit = get_or ds i 0 - 48 in
    let more = at_drop_more (value_after value) ds i 0 c.loop-b-test.true in
    let tens = checked_some c.checked_mul.result _ (value * 10) c.in_ok-tens.tens c.checked_mul.ensures c.in_ok-tens.was in
    let past = checked_none c.checked_add.result (c.in_ok-tens.tens + c.from.result) c.args.most c.checked_add.ensures c.in_err-value.was c.ranges.most.fits in
    let from = c.from.ensures in
    let sub = c.saturating_sub.ensures in
    c.from_residual-in_err-value.ensures ∙ past_by c.args.most value digit (value * 10 + digit) _ (drop (i + 1) ds) refl (omega (arith, past, tens, from, sub)) (sym more ∙ c.loop-b.invariant.so_far)

pub returns-then-value-most : goal.returns-then-value-most
returns-then-value-most c =
    let ds = c.args.digits.now in
    let i = c.loop-b.b-index in
    let value = c.loop-b.value in
    let digit = get_or ds i 0 - 48 in
    let more = at_drop_more (value_after value) ds i 0 c.loop-b-test.true in
    let tens = checked_some c.checked_mul.result _ (value * 10) c.in_ok-tens.tens c.checked_mul.ensures c.in_ok-tens.was in
    let next = checked_some c.checked_add.result _ (c.in_ok-tens.tens + c.from.result) c.in_ok-value.value c.checked_add.ensures c.in_ok-value.was in
    let from = c.from.ensures in
    let sub = c.saturating_sub.ensures in
    past_by c.args.most value digit c.in_ok-value.value _ (drop (i + 1) ds) (omega (arith, next, tens, from, sub)) c.if-value-most.true (sym more ∙ c.loop-b.invariant.so_far)
