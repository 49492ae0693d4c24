-- What `adding::add_file` owes besides what the check finds.
use Rattle.std.proofs.Common.{◌≡◌, List, Option, Some, None, All, length, sym, ap, ◌∙◌, subst}
use Rattle.std.specs.Cow.{cow_str_bytes}
use Rattle.std.specs.Option.{option_map}
use Rattle.std.proofs.lemmas.Result.{on_ok_weaker}
use Rattle.llvm_core.specs.declared.numbers.LLVMConst.{LLVMConst}
use Rattle.ll_lines.specs.Lines.{Text}
use Rattle.ll_lines.specs.declared.lines.ConstLine.{ConstLine}
use Rattle.ll_lines.specs.declared.lines.Function.{Function}
use Rattle.ll_lines.specs.Views.{IsTableIn, IsFunctionIn}
use Rattle.ll_bodies.specs.AddingViews.{AddsFunctions, all_over}
use Rattle.ll_bodies.specs.TableViews.{AreMeant}
use Rattle.ll_bodies.proofs.ErrLaws.{passed_on}
use Rattle.ll_bodies.proofs.FileLaws.{structs_unmade, file_made, file_unmade, table_before, table_behind, functions_behind}
use Rattle.ll_bodies.proofs.adding.add_file.Goals as goal

pub returns-clause-data : goal.returns-clause-data
returns-clause-data c =
    let o = c.in_ok-set_name.ensures in
    let k = c.in_ok-numbers.ensures in
    let bytes = c.args.bytes.now in
    let said = c.args.said.now in
    let called = sym c.in_ok-written.ensures ∙ ap (option_map cow_str_bytes) c.in-Some.is ∙ ap (λ (n : Text). Some n) (sym c.as_str.ensures.value) in
    on_ok_weaker c.add_functions.result (λ a.
    file_made bytes said c.args.module.now c.set_name.new.self c.add_structs.new.module c.as_str.result.now c.as_slice-structs.result.now
    o.ok c.as_slice-structs.ensures.value called o.data c.requires.empty c.in_ok-add_structs.ensures.ok c.requires.said c.add_consts.new.module k.adds k.sound c.as_slice-functions.result.now c.as_slice-functions.ensures.value c.add_functions.new.module
    (subst (λ (ls : List ConstLine). AddsFunctions bytes ls c.as_slice-functions.result.now c.add_consts.new.module c.add_functions.new.module) c.as_slice-table.ensures.value a)) c.add_functions.ensures.ok

pub returns-clause-not_yet : goal.returns-clause-not_yet
returns-clause-not_yet c = λ e.
    let o = c.in_ok-set_name.ensures in
    let k = c.in_ok-numbers.ensures in
    let bytes = c.args.bytes.now in
    let said = c.args.said.now in
    let called = sym c.in_ok-written.ensures ∙ ap (option_map cow_str_bytes) c.in-Some.is ∙ ap (λ (n : Text). Some n) (sym c.as_str.ensures.value) in
    file_unmade bytes said c.args.module.now c.set_name.new.self c.add_structs.new.module c.as_str.result.now c.as_slice-structs.result.now
    o.ok c.as_slice-structs.ensures.value called o.data c.requires.empty c.in_ok-add_structs.ensures.ok c.requires.said c.add_consts.new.module k.adds k.sound c.as_slice-functions.result.now c.as_slice-functions.ensures.value
    (subst (λ (ls : List ConstLine). all_over bytes ls c.add_consts.new.module c.as_slice-functions.result.now ≡ None) c.as_slice-table.ensures.value (c.add_functions.ensures.not_yet e))

pub returns-in_err-add_structs-clause-not_yet : goal.returns-in_err-add_structs-clause-not_yet
returns-in_err-add_structs-clause-not_yet c = λ e.
    let o = c.in_ok-set_name.ensures in
    let x = c.in_err-add_structs in
    let called = sym c.in_ok-written.ensures ∙ ap (option_map cow_str_bytes) c.in-Some.is ∙ ap (λ (n : Text). Some n) (sym c.as_str.ensures.value) in
    structs_unmade c.args.bytes.now c.args.said.now c.args.module.now c.set_name.new.self c.add_structs.new.module c.as_str.result.now c.as_slice-structs.result.now
    o.ok c.as_slice-structs.ensures.value called (x.ensures.not_yet (passed_on c.from_residual-in_err-add_structs.result x.field-0.0 c.from_residual-in_err-add_structs.ensures.1 e))

pub add_consts-requires-clause-table : goal.add_consts-requires-clause-table
add_consts-requires-clause-table c =
    let k = c.add_structs.new.module in
    subst (λ (ls : List ConstLine). IsTableIn k ls) (sym c.as_slice-table.ensures.value)
    (table_before c.args.said.now c.args.module.now c.set_name.new.self k c.as_str.result.now c.in_ok-set_name.ensures.ok c.in_ok-add_structs.ensures.ok.rest c.requires.said)

pub add_functions-requires-clause-table : goal.add_functions-requires-clause-table
add_functions-requires-clause-table c =
    let k = c.add_structs.new.module in
    let j = c.add_consts.new.module in
    subst (λ (ls : List ConstLine). IsTableIn j ls) (sym c.as_slice-table.ensures.value)
    (table_behind c.args.said.now c.args.module.now c.set_name.new.self k c.as_str.result.now c.in_ok-set_name.ensures.ok c.in_ok-add_structs.ensures.ok.rest c.requires.said j c.in_ok-numbers.ensures.adds)

pub add_functions-requires-clause-made : goal.add_functions-requires-clause-made
add_functions-requires-clause-made c =
    let ls = c.as_slice-table.result.now in
    subst (λ (ns : List (Option LLVMConst)). AreMeant c.args.bytes.now c.add_consts.new.module ls (length ls) ns) (sym c.as_slice-consts.ensures.value) c.in_ok-numbers.ensures.meant

pub add_functions-requires-clause-said : goal.add_functions-requires-clause-said
add_functions-requires-clause-said c =
    let k = c.add_structs.new.module in
    let j = c.add_consts.new.module in
    let all = functions_behind c.args.said.now c.args.module.now c.set_name.new.self k c.as_str.result.now c.in_ok-set_name.ensures.ok c.in_ok-add_structs.ensures.ok.rest c.requires.said j c.in_ok-numbers.ensures.adds in
    subst (λ (fs : List Function). All (IsFunctionIn j (length c.as_slice-table.result.now)) fs) (sym c.as_slice-functions.ensures.value)
    (subst (λ (ls : List ConstLine). All (IsFunctionIn j (length ls)) c.args.said.now.functions.items) (sym c.as_slice-table.ensures.value) all)
