-- Each function adds its text, and the last one ends the module.
use Rattle.std.proofs.Common.{◌≡◌, ◌<◌, ℕ, List, ◌++◌, ◌∙◌, append_assoc, below_more, arith}
use Rattle.std.specs.List.{flat_map}
use Rattle.llvm_core.specs.Data.{data_of}
use Rattle.llvm_core.specs.Form.{IsFormFunction, IsFewIn}
use Rattle.ll_print.specs.Printing.{source_text, structs_text, function_text}
use Rattle.ll_print.specs.Parts.{function_in, IsNumberable}
use Rattle.ll_print.proofs.FormLaws.{function_has, functions_have, module_more, module_all, text_utf8}
use Rattle.ll_print.proofs.printer.put_module.Goals as goal

-- a name is a &str
pub returns-in_err-put_source-clause-utf8 : goal.returns-in_err-put_source-clause-utf8
returns-in_err-put_source-clause-utf8 c = text_utf8 c.name.ensures c.name.utf8

pub returns-in_err-put_structs-clause-utf8 : goal.returns-in_err-put_structs-clause-utf8
returns-in_err-put_structs-clause-utf8 c = text_utf8 c.name.ensures c.name.utf8

pub returns-in_err-put_function-clause-utf8 : goal.returns-in_err-put_function-clause-utf8
returns-in_err-put_function-clause-utf8 c = text_utf8 c.name.ensures c.name.utf8

pub returns-clause-utf8 : goal.returns-clause-utf8
returns-clause-utf8 c = text_utf8 c.name.ensures c.name.utf8

pub put_function-requires-clause-form : goal.put_function-requires-clause-form
put_function-requires-clause-form c = function_has c.args.m.now c.loop-f.f IsFormFunction c.requires.form.functions (omega (arith, c.functions-f-end.ensures.len, c.loop-f-test.true))

pub put_function-requires-clause-few : goal.put_function-requires-clause-few
put_function-requires-clause-few c = (function_has c.args.m.now c.loop-f.f IsFewIn c.requires.few.each (omega (arith, c.functions-f-end.ensures.len, c.loop-f-test.true))).params

pub loop-f-preserved : goal.loop-f-preserved
loop-f-preserved c = record {
  text = module_more c.args.m.now c.loop-f.f _ _ (c.args.out.now.items ++ source_text c.args.m.now.name ++ structs_text (data_of c.args.m.now).structs) (omega (arith, c.functions-f-end.ensures.len, c.loop-f-test.true)) c.loop-f.invariant.text c.in_ok-put_function.ensures.text;
  numbers = below_more (λ f. IsNumberable (function_in c.args.m.now (record { 0 = f }))) c.loop-f.f c.loop-f.invariant.numbers c.in_ok-put_function.ensures.numbers;
}

three_parts : (x y z w : List ℕ) → ((x ++ y) ++ z) ++ w ≡ x ++ (y ++ z ++ w)
three_parts x y z w = simp append_assoc

pub returns-clause-text : goal.returns-clause-text
returns-clause-text c =
    let d = data_of c.args.m.now in
    module_all c.args.m.now c.loop-f.f _ (c.args.out.now.items ++ source_text c.args.m.now.name ++ structs_text d.structs) (omega (arith, c.functions-f-end.ensures.len, c.loop-f-test.false)) c.loop-f.invariant.text
    ∙ three_parts c.args.out.now.items (source_text d.name) (structs_text d.structs) (flat_map (function_text d.structs) d.functions)

pub returns-clause-numbers : goal.returns-clause-numbers
returns-clause-numbers c = functions_have c.args.m.now IsNumberable (λ f l. let within : f < c.loop-f.f = omega (arith, l, c.functions-f-end.ensures.len, c.loop-f-test.false) in c.loop-f.invariant.numbers f within)
