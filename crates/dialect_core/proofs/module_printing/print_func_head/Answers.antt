-- What `module_printing::print_func_head` owes besides what the check finds.
use Rattle.std.proofs.Common.{◌∙◌}
use Rattle.std.proofs.lemmas.Result.{on_ok_weaker}
use Rattle.std.specs.Prelude.{codes}
use Rattle.std.specs.Option.{option_copied}
use Rattle.dialect_types.specs.Trees.{type_at, type_trees}
use Rattle.dialect_types.proofs.TextLemmas.{keeps_then, keeps_appended, keeps_equal}
use Rattle.dialect_core.proofs.KeepLemmas.{kept_equal, then_appended, then_extended, on_extended}
use Rattle.dialect_core.proofs.ModulePrintLemmas.{head_printed}
use Rattle.dialect_core.proofs.module_printing.print_func_head.Goals as goal

pub returns-in_err-extend_from_slice-2-clause-kept : goal.returns-in_err-extend_from_slice-2-clause-kept
returns-in_err-extend_from_slice-2-clause-kept c = keeps_equal _ _ _ (keeps_appended _ _ _ c.in_ok-extend_from_slice.ensures.items) c.in_err-extend_from_slice-2.ensures.items

pub returns-in_err-extend_from_slice-3-clause-kept : goal.returns-in_err-extend_from_slice-3-clause-kept
returns-in_err-extend_from_slice-3-clause-kept c =
    let name = then_appended _ _ _ _ (keeps_appended _ _ _ c.in_ok-extend_from_slice.ensures.items) c.in_ok-extend_from_slice-2.ensures.items in
    keeps_equal _ _ _ name c.in_err-extend_from_slice-3.ensures.items

pub returns-in_err-append_type-clause-kept : goal.returns-in_err-append_type-clause-kept
returns-in_err-append_type-clause-kept c =
    let name = then_appended _ _ _ _ (keeps_appended _ _ _ c.in_ok-extend_from_slice.ensures.items) c.in_ok-extend_from_slice-2.ensures.items in
    keeps_then _ _ _ (then_appended _ _ _ _ name c.in_ok-extend_from_slice-3.ensures.items) c.append_type.ensures.kept

pub returns-in_err-extend_from_slice-4-clause-kept : goal.returns-in_err-extend_from_slice-4-clause-kept
returns-in_err-extend_from_slice-4-clause-kept c =
    let name = then_appended _ _ _ _ (keeps_appended _ _ _ c.in_ok-extend_from_slice.ensures.items) c.in_ok-extend_from_slice-2.ensures.items in
    let type = keeps_then _ _ _ (then_appended _ _ _ _ name c.in_ok-extend_from_slice-3.ensures.items) c.in_ok-append_type.ensures.kept in
    keeps_equal _ _ _ type c.in_err-extend_from_slice-4.ensures.items

pub returns-in_err-extend_from_slice-5-clause-kept : goal.returns-in_err-extend_from_slice-5-clause-kept
returns-in_err-extend_from_slice-5-clause-kept c =
    let name = then_appended _ _ _ _ (keeps_appended _ _ _ c.in_ok-extend_from_slice.ensures.items) c.in_ok-extend_from_slice-2.ensures.items in
    let type = keeps_then _ _ _ (then_appended _ _ _ _ name c.in_ok-extend_from_slice-3.ensures.items) c.in_ok-append_type.ensures.kept in
    keeps_equal _ _ _ (then_appended _ _ _ _ type c.in_ok-extend_from_slice-4.ensures.items) c.in_err-extend_from_slice-5.ensures.items

pub returns-in_err-print_llvm_name-clause-kept : goal.returns-in_err-print_llvm_name-clause-kept
returns-in_err-print_llvm_name-clause-kept c =
    let name = then_appended _ _ _ _ (keeps_appended _ _ _ c.in_ok-extend_from_slice.ensures.items) c.in_ok-extend_from_slice-2.ensures.items in
    let type = keeps_then _ _ _ (then_appended _ _ _ _ name c.in_ok-extend_from_slice-3.ensures.items) c.in_ok-append_type.ensures.kept in
    let word = then_appended _ _ _ _ (then_appended _ _ _ _ type c.in_ok-extend_from_slice-4.ensures.items) c.in_ok-extend_from_slice-5.ensures.items in
    keeps_then _ _ _ word c.print_llvm_name.ensures.kept

pub returns-clause-kept : goal.returns-clause-kept
returns-clause-kept c =
    let name = then_appended _ _ _ _ (keeps_appended _ _ _ c.in_ok-extend_from_slice.ensures.items) c.in_ok-extend_from_slice-2.ensures.items in
    let type = keeps_then _ _ _ (then_appended _ _ _ _ name c.in_ok-extend_from_slice-3.ensures.items) c.in_ok-append_type.ensures.kept in
    let word = then_appended _ _ _ _ (then_appended _ _ _ _ type c.in_ok-extend_from_slice-4.ensures.items) c.in_ok-extend_from_slice-5.ensures.items in
    then_extended c.extend_from_slice-6.result _ _ (codes "}") _ (keeps_then _ _ _ word c.in_ok-print_llvm_name.ensures.kept) c.extend_from_slice-6.ensures.items

pub returns-clause-ok : goal.returns-clause-ok
returns-clause-ok c =
    on_ok_weaker c.extend_from_slice-6.result (λ e. head_printed c.args.name.now c.as_bytes.result.now c.as_bytes-2.result.now (type_at (type_trees c.args.types.now) c.args.ty) c.args.linkage (option_copied c.args.llvm_name) _ _ _ _ _ _ _ _ _ c.as_bytes.ensures.value (c.as_bytes-2.ensures.value ∙ c.linkage_word.ensures)
    c.in_ok-extend_from_slice.ensures.items c.in_ok-extend_from_slice-2.ensures.items c.in_ok-extend_from_slice-3.ensures.items c.in_ok-append_type.ensures.ok c.in_ok-extend_from_slice-4.ensures.items c.in_ok-extend_from_slice-5.ensures.items c.in_ok-print_llvm_name.ensures.ok e) (on_extended _ c.print_llvm_name.new.out.items (codes "}") _ c.extend_from_slice-6.ensures.items)

pub returns-in_err-extend_from_slice-clause-kept : goal.returns-in_err-extend_from_slice-clause-kept
returns-in_err-extend_from_slice-clause-kept c = kept_equal _ _ c.in_err-extend_from_slice.ensures.items

pub append_type-requires : goal.append_type-requires
append_type-requires c = c.requires
