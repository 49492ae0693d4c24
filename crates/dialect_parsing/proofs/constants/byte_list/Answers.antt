-- What was read is a list of bytes, and what is refused is none.
use Rattle.std.proofs.Common.{◌<◌, sym, subst, ◌∙◌, arith, List, ℕ}
use Rattle.dialect_parsing.proofs.ConstantListLaws.{AreBytesSoFar, next_byte, no_byte_comma, no_next_byte}
use Rattle.dialect_parsing.proofs.constants.byte_list.Goals as goal

pub returns-in_err-expect-clause-err : goal.returns-in_err-expect-clause-err
returns-in_err-expect-clause-err c = λ _.
    let no = c.skip-in-loop-symbols.ensures.no c.loop-symbols-test.true in
    no_byte_comma _ _ _ _ c.loop-symbols.invariant no.0 no.1 c.in_err-expect.ensures.err

pub returns-in_err-next-clause-err : goal.returns-in_err-next-clause-err
returns-in_err-next-clause-err c = λ _.
    let no = c.skip-in-loop-symbols.ensures.no c.loop-symbols-test.true in
    no_next_byte _ _ _ _ _ c.loop-symbols.invariant no.0 c.in_ok-expect.ensures.ok c.in_err-next.ensures.err

pub loop-symbols-preserved : goal.loop-symbols-preserved
loop-symbols-preserved c =
    let no = c.skip-in-loop-symbols.ensures.no c.loop-symbols-test.true in
    let small : c.in_ok-next.next < 256 = omega arith in
    subst (λ (ns : List ℕ). AreBytesSoFar c.args.symbols.now ns c.byte-in-loop-symbols.new.symbols) (sym c.in_ok-push-2.ensures.items)
    (next_byte _ _ _ _ _ _ c.loop-symbols.invariant (sym no.0 ∙ c.in_ok-expect.ensures.ok) c.in_ok-next.ensures.ok small)
