-- Each operand prints behind the others.
use Rattle.std.proofs.Common.{ap, ◌∙◌, ◌++◌, ℕ, List}
use Rattle.llvm_core.specs.Data.{trees_of, structs_of, operand_of}
use Rattle.ll_print.specs.Printing.{operand_text, value_text}
use Rattle.ll_print.specs.Parts.{function_in}
use Rattle.ll_print.proofs.StrungLaws.{behind_comma, strung_put, strung_all, first_put, next_put, operands_strung}
use Rattle.support.proofs.ListLaws.{appended_twice}
use Rattle.ll_print.proofs.instructions.put_operands.Goals as goal
use Rattle.ll_print.proofs.instructions.put_operands.Goals.{then-place-eq0+in_ok-put_value, else-place-eq0+in_ok-extend_from_slice+in_ok-put_operand}

pub returns-clause-text : goal.returns-clause-text
returns-clause-text c =
    let ss = structs_of c.args.m.now in
    let f = function_in c.args.m.now c.args.numbers.now.function in
    strung_all (value_text ss f) (behind_comma (operand_text ss f)) (operand_of (trees_of c.args.m.now)) c.args.operands.now c.loop-place.place c.args.out.now.items _ c.loop-place-test.false c.loop-place.invariant
    ∙ ap (λ (t : List ℕ). c.args.out.now.items ++ t) (operands_strung ss f _)

pub loop-place-preserved : goal.loop-place-preserved
loop-place-preserved c =
    let ss = structs_of c.args.m.now in
    let f = function_in c.args.m.now c.args.numbers.now.function in
    strung_put (value_text ss f) (behind_comma (operand_text ss f)) (operand_of (trees_of c.args.m.now)) c.args.operands.now c.loop-place.place _ c.args.out.now.items _ _ c.loop-place-test.true c.loop-place.invariant
    (elim c.if-place-eq0.branch [
      | then-place-eq0+in_ok-put_value w ↦ first_put (value_text ss f) (behind_comma (operand_text ss f)) c.loop-place.place _ _ _ w.if-place-eq0.true (rw (← w.out-is) at w.in_ok-put_value.ensures.text)
      | else-place-eq0+in_ok-extend_from_slice+in_ok-put_operand w ↦
          next_put (value_text ss f) (behind_comma (operand_text ss f)) c.loop-place.place _ _ _ w.if-place-eq0.false (appended_twice _ _ _ _ _ w.in_ok-extend_from_slice.ensures.items (rw (← w.out-is) at w.in_ok-put_operand.ensures.text))
    ])
