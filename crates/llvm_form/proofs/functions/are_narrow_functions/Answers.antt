-- The goals of `functions::are_narrow_functions` that the tactics leave.
use Rattle.std.proofs.Common.{false, sym, ◌∙◌, ap, arith}
use Rattle.std.specs.Option.{option_map_or}
use Rattle.support.proofs.ListLaws.{item_there}
use Rattle.llvm_form.specs.Narrow.{is_narrow_function_data}
use Rattle.llvm_form.proofs.AllLaws.{one_fails, one_more}
use Rattle.llvm_form.proofs.FewLaws.{few_params}
use Rattle.llvm_form.proofs.functions.are_narrow_functions.Goals as goal

pub is_narrow_function-requires-clause-few : goal.is_narrow_function-requires-clause-few
is_narrow_function-requires-clause-few c = few_params c.args.m.now (record { 0 = c.loop-f.f }) c.requires (let len = c.functions-f-end.ensures.len in omega (arith, len, c.loop-f-test.true))

pub returns-then-not-is_narrow_function : goal.returns-then-not-is_narrow_function
returns-then-not-is_narrow_function c =
    let m = c.args.m.now in
    let x = item_there m.functions c.loop-f.f (let len = c.functions-f-end.ensures.len in omega (arith, len, c.loop-f-test.true)) in
    let fails = ap (λ o. option_map_or (is_narrow_function_data m) o false) (sym x.1) ∙ sym c.is_narrow_function.ensures ∙ c.if-not-is_narrow_function.true in
    sym (one_fails (is_narrow_function_data m) m.functions c.loop-f.f x.0 x.1 fails)

pub loop-f-preserved : goal.loop-f-preserved
loop-f-preserved c =
    let m = c.args.m.now in
    let x = item_there m.functions c.loop-f.f (let len = c.functions-f-end.ensures.len in omega (arith, len, c.loop-f-test.true)) in
    let passes = ap (λ o. option_map_or (is_narrow_function_data m) o false) (sym x.1) ∙ sym c.is_narrow_function.ensures ∙ c.if-not-is_narrow_function.false in
    one_more (is_narrow_function_data m) m.functions c.loop-f.f x.0 x.1 c.loop-f.invariant passes
