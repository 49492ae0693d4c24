-- What `module_printing::print_llvm_name` owes besides what the check finds.
use Rattle.std.proofs.lemmas.Result.{on_ok_weaker}
use Rattle.support.proofs.ListLaws.{appended_twice}
use Rattle.dialect_types.proofs.TextLemmas.{keeps_then, keeps_appended}
use Rattle.dialect_core.proofs.module_printing.print_llvm_name.Goals as goal

pub returns-in_ok-extend_from_slice-in-Some-clause-kept : goal.returns-in_ok-extend_from_slice-in-Some-clause-kept
returns-in_ok-extend_from_slice-in-Some-clause-kept c = keeps_then _ _ _ (keeps_appended _ _ _ c.in_ok-extend_from_slice-in-Some.ensures.items) c.print_quoted.ensures.kept

pub returns-in_ok-extend_from_slice-in-Some-clause-ok : goal.returns-in_ok-extend_from_slice-in-Some-clause-ok
returns-in_ok-extend_from_slice-in-Some-clause-ok c =
    rw c.in-Some.is (on_ok_weaker c.print_quoted.result (λ e. appended_twice _ _ _ _ _ c.in_ok-extend_from_slice-in-Some.ensures.items e) c.print_quoted.ensures.ok)
