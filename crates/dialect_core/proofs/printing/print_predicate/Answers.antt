-- What `printing::print_predicate` owes besides what the check finds.
use Rattle.std.proofs.Common.{ℕ, List, ◌++◌, ap, ◌∙◌}
use Rattle.std.proofs.lemmas.Result.{on_ok_weaker}
use Rattle.std.specs.Prelude.{codes}
use Rattle.dialect_types.proofs.TextLemmas.{keeps_appended, keeps_equal}
use Rattle.dialect_core.proofs.KeepLemmas.{then_appended, then_extended, on_extended}
use Rattle.dialect_core.proofs.PrintLemmas.{between}
use Rattle.dialect_core.proofs.printing.print_predicate.Goals as goal

pub returns-in_err-extend_from_slice-2-clause-kept : goal.returns-in_err-extend_from_slice-2-clause-kept
returns-in_err-extend_from_slice-2-clause-kept c = keeps_equal _ _ _ (keeps_appended _ _ _ c.in_ok-extend_from_slice.ensures.items) c.in_err-extend_from_slice-2.ensures.items

pub returns-clause-kept : goal.returns-clause-kept
returns-clause-kept c =
    let word = then_appended _ _ _ _ (keeps_appended _ _ _ c.in_ok-extend_from_slice.ensures.items) c.in_ok-extend_from_slice-2.ensures.items in
    then_extended c.extend_from_slice-3.result _ _ (codes "}") _ word c.extend_from_slice-3.ensures.items

pub returns-clause-ok : goal.returns-clause-ok
returns-clause-ok c =
    on_ok_weaker c.extend_from_slice-3.result (λ e. between _ _ _ _ _ _ _ c.in_ok-extend_from_slice.ensures.items c.in_ok-extend_from_slice-2.ensures.items e
    ∙ ap (λ (word : List ℕ). c.args.out.now.items ++ ((codes " {predicate = " ++ word) ++ codes "}")) c.predicate_word.ensures) (on_extended _ c.extend_from_slice-2.new.self.items (codes "}") _ c.extend_from_slice-3.ensures.items)
