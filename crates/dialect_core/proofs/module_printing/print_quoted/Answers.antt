-- What `module_printing::print_quoted` owes besides what the check finds.
use Rattle.std.proofs.Common.{[], ◌∷◌, ◌++◌, ◌∙◌, ap}
use Rattle.std.specs.List.{flat_map}
use Rattle.std.proofs.lemmas.Result.{on_ok_weaker}
use Rattle.dialect_types.proofs.TextLemmas.{keeps_then, keeps_appended}
use Rattle.dialect_core.specs.Text.{quoted_char}
use Rattle.dialect_core.proofs.KeepLemmas.{kept_equal, then_extended, on_extended}
use Rattle.dialect_core.proofs.PrintLemmas.{between}
use Rattle.dialect_core.proofs.module_printing.print_quoted.Goals as goal

pub returns-in_err-extend_from_slice-clause-kept : goal.returns-in_err-extend_from_slice-clause-kept
returns-in_err-extend_from_slice-clause-kept c = kept_equal _ _ c.in_err-extend_from_slice.ensures.items

pub returns-in_err-print_quoted_chars-clause-kept : goal.returns-in_err-print_quoted_chars-clause-kept
returns-in_err-print_quoted_chars-clause-kept c = keeps_then _ _ _ (keeps_appended _ _ _ c.in_ok-extend_from_slice.ensures.items) c.print_quoted_chars.ensures.kept

pub returns-clause-kept : goal.returns-clause-kept
returns-clause-kept c =
    let inner = keeps_then _ _ _ (keeps_appended _ _ _ c.in_ok-extend_from_slice.ensures.items) c.in_ok-print_quoted_chars.ensures.kept in
    then_extended c.extend_from_slice-2.result _ _ (34 ∷ []) _ inner c.extend_from_slice-2.ensures.items

pub returns-clause-ok : goal.returns-clause-ok
returns-clause-ok c =
    let inner = c.in_ok-print_quoted_chars.ensures.ok ∙ ap (λ cs. c.extend_from_slice.new.self.items ++ flat_map quoted_char cs) c.as_bytes.ensures.value in
    on_ok_weaker c.extend_from_slice-2.result (λ e. between c.args.out.now.items _ _ _ (34 ∷ []) (flat_map quoted_char c.args.text.now) (34 ∷ []) c.in_ok-extend_from_slice.ensures.items inner e) (on_extended _ c.print_quoted_chars.new.out.items (34 ∷ []) _ c.extend_from_slice-2.ensures.items)
