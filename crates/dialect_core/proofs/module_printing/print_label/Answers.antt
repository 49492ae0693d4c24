-- What `module_printing::print_label` owes besides what the check finds.
use Rattle.std.proofs.lemmas.Result.{on_ok_weaker}
use Rattle.std.specs.Prelude.{codes}
use Rattle.dialect_types.proofs.TextLemmas.{keeps_then, keeps_appended, keeps_equal}
use Rattle.dialect_core.proofs.KeepLemmas.{then_appended, six_texts, then_extended, on_extended}
use Rattle.dialect_core.proofs.module_printing.print_label.Goals as goal

pub returns-in_err-print_block_name-clause-kept : goal.returns-in_err-print_block_name-clause-kept
returns-in_err-print_block_name-clause-kept c = keeps_then _ _ _ (keeps_appended _ _ _ c.in_ok-extend_from_slice.ensures.items) c.print_block_name.ensures.kept

pub returns-in_err-print_colon_name-clause-kept : goal.returns-in_err-print_colon_name-clause-kept
returns-in_err-print_colon_name-clause-kept c =
    let name = keeps_then _ _ _ (keeps_appended _ _ _ c.in_ok-extend_from_slice.ensures.items) c.in_ok-print_block_name.ensures.kept in
    keeps_then _ _ _ name c.print_colon_name.ensures.kept

pub returns-in_err-extend_from_slice-2-clause-kept : goal.returns-in_err-extend_from_slice-2-clause-kept
returns-in_err-extend_from_slice-2-clause-kept c =
    let name = keeps_then _ _ _ (keeps_appended _ _ _ c.in_ok-extend_from_slice.ensures.items) c.in_ok-print_block_name.ensures.kept in
    keeps_equal _ _ _ (keeps_then _ _ _ name c.in_ok-print_colon_name.ensures.kept) c.in_err-extend_from_slice-2.ensures.items

pub returns-in_err-print_arguments-clause-kept : goal.returns-in_err-print_arguments-clause-kept
returns-in_err-print_arguments-clause-kept c =
    let name = keeps_then _ _ _ (keeps_appended _ _ _ c.in_ok-extend_from_slice.ensures.items) c.in_ok-print_block_name.ensures.kept in
    let opened = then_appended _ _ _ _ (keeps_then _ _ _ name c.in_ok-print_colon_name.ensures.kept) c.in_ok-extend_from_slice-2.ensures.items in
    keeps_then _ _ _ opened c.print_arguments.ensures.kept

pub returns-clause-ok : goal.returns-clause-ok
returns-clause-ok c =
    on_ok_weaker c.extend_from_slice-3.result (λ e. six_texts _ _ _ _ _ _ _ _ _ _ _ _ _ c.in_ok-extend_from_slice.ensures.items c.in_ok-print_block_name.ensures.ok c.in_ok-print_colon_name.ensures.ok c.in_ok-extend_from_slice-2.ensures.items c.in_ok-print_arguments.ensures.ok
    e) (on_extended _ c.print_arguments.new.out.items (codes "):\n") _ c.extend_from_slice-3.ensures.items)

pub returns-clause-kept : goal.returns-clause-kept
returns-clause-kept c =
    let name = keeps_then _ _ _ (keeps_appended _ _ _ c.in_ok-extend_from_slice.ensures.items) c.in_ok-print_block_name.ensures.kept in
    let opened = then_appended _ _ _ _ (keeps_then _ _ _ name c.in_ok-print_colon_name.ensures.kept) c.in_ok-extend_from_slice-2.ensures.items in
    then_extended c.extend_from_slice-3.result _ _ (codes "):\n") _ (keeps_then _ _ _ opened c.in_ok-print_arguments.ensures.kept) c.extend_from_slice-3.ensures.items
