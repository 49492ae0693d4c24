-- Each operand prints behind the others.
use Rattle.std.proofs.Common.{ap, ◌∙◌, ◌++◌, ℕ, List}
use Rattle.llvm_core.specs.Data.{trees_of, structs_of, operand_of}
use Rattle.ll_print.specs.Printing.{value_text}
use Rattle.ll_print.specs.Parts.{function_in}
use Rattle.ll_print.proofs.StrungLaws.{behind_comma, strung_put, strung_all, comma_put, values_strung}
use Rattle.ll_print.proofs.instructions.put_values.Goals as goal

pub put_value-requires-clause-own : goal.put_value-requires-clause-own
put_value-requires-clause-own c = c.requires.own c.loop-place.place _ c.loop-place-test.true

pub loop-place-preserved : goal.loop-place-preserved
loop-place-preserved c =
    let value = value_text (structs_of c.args.m.now) (function_in c.args.m.now c.args.numbers.now.function) in
    strung_put value (behind_comma value) (operand_of (trees_of c.args.m.now)) c.args.operands.now c.loop-place.place _ c.args.out.now.items _ _ c.loop-place-test.true c.loop-place.invariant
    (comma_put value c.loop-place.place _ _ _ _ c.in_ok-put_comma.ensures.text c.in_ok-put_value.ensures.text)

pub returns-clause-text : goal.returns-clause-text
returns-clause-text c =
    let ss = structs_of c.args.m.now in
    let f = function_in c.args.m.now c.args.numbers.now.function in
    strung_all (value_text ss f) (behind_comma (value_text ss f)) (operand_of (trees_of c.args.m.now)) c.args.operands.now c.loop-place.place c.args.out.now.items _ c.loop-place-test.false c.loop-place.invariant
    ∙ ap (λ (t : List ℕ). c.args.out.now.items ++ t) (values_strung ss f _)
