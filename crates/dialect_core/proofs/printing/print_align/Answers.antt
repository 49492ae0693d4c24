-- What `printing::print_align` owes besides what the check finds.
use Rattle.std.proofs.Common.{◌≡◌, ℕ, Bool, true, false, List, ◌++◌, Some, append_assoc, sym, ap, ◌∙◌}
use Rattle.std.proofs.lemmas.List.{append-nil}
use Rattle.std.proofs.lemmas.Result.{on_ok_weaker}
use Rattle.std.specs.Prelude.{codes}
use Rattle.std.specs.Fmt.{decimal}
use Rattle.kinds.specs.Access.{bytes_of}
use Rattle.kinds.specs.declared.access.Align.{Align}
use Rattle.kinds.specs.declared.op.Immediates.TheVariants as M
use Rattle.dialect_core.specs.Text.{behind_align, row_immediates_text}
use Rattle.dialect_types.proofs.TextLemmas.{keeps_then, keeps_appended}
use Rattle.dialect_core.proofs.KeepLemmas.{then_extended, on_extended}
use Rattle.dialect_core.proofs.PrintLemmas.{between}
use Rattle.dialect_core.proofs.printing.print_align.Goals as goal

-- the pieces are the text of the immediates
pieces_text : (align : Align) (volatile : Bool) → (codes " {align = " ++ decimal (bytes_of align)) ++ behind_align volatile ≡ row_immediates_text (M.Access (record { align = Some align; volatile = volatile }))
pieces_text align true = ap (λ (t : List ℕ). codes " {align = " ++ t) (sym (append_assoc (decimal (bytes_of align)) (codes ", volatile") (codes "}")))
pieces_text align false = ap (λ (t : List ℕ). codes " {align = " ++ (t ++ codes "}")) (sym (append-nil (decimal (bytes_of align))))

pub returns-in_err-print_number-clause-kept : goal.returns-in_err-print_number-clause-kept
returns-in_err-print_number-clause-kept c = keeps_then _ _ _ (keeps_appended _ _ _ c.in_ok-extend_from_slice.ensures.items) c.print_number.ensures.kept

pub returns-clause-kept : goal.returns-clause-kept
returns-clause-kept c =
    let number = keeps_then _ _ _ (keeps_appended _ _ _ c.in_ok-extend_from_slice.ensures.items) c.in_ok-print_number.ensures.kept in
    then_extended c.extend_from_slice-2.result _ _ c.behind_align.result.now _ number c.extend_from_slice-2.ensures.items

pub returns-clause-ok : goal.returns-clause-ok
returns-clause-ok c =
    let old = c.args.out.now.items in
    on_ok_weaker c.extend_from_slice-2.result (λ e. between _ _ _ _ _ _ _ c.in_ok-extend_from_slice.ensures.items c.in_ok-print_number.ensures.ok e
    ∙ ap (λ (n : ℕ). old ++ ((codes " {align = " ++ decimal n) ++ c.behind_align.result.now)) (c.from.ensures ∙ c.bytes.ensures)
    ∙ ap (λ (end : List ℕ). old ++ ((codes " {align = " ++ decimal (bytes_of c.args.align)) ++ end)) c.behind_align.ensures
    ∙ ap (λ (t : List ℕ). old ++ t) (pieces_text c.args.align c.args.volatile)) (on_extended _ c.print_number.new.out.items c.behind_align.result.now _ c.extend_from_slice-2.ensures.items)
