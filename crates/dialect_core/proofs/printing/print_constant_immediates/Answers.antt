-- What `printing::print_constant_immediates` owes besides what the check finds.
use Rattle.std.proofs.lemmas.Result.{on_ok_weaker}
use Rattle.std.specs.Prelude.{codes}
use Rattle.dialect_types.proofs.TextLemmas.{keeps_then, keeps_appended}
use Rattle.dialect_core.proofs.KeepLemmas.{then_extended, on_extended}
use Rattle.dialect_core.proofs.PrintLemmas.{between}
use Rattle.dialect_core.proofs.printing.print_constant_immediates.Goals as goal

pub returns-in_err-append-clause-kept : goal.returns-in_err-append-clause-kept
returns-in_err-append-clause-kept c = keeps_then _ _ _ (keeps_appended _ _ _ c.in_ok-extend_from_slice.ensures.items) c.append.ensures.kept

pub returns-clause-kept : goal.returns-clause-kept
returns-clause-kept c =
    let value = keeps_then _ _ _ (keeps_appended _ _ _ c.in_ok-extend_from_slice.ensures.items) c.in_ok-append.ensures.kept in
    then_extended c.extend_from_slice-2.result _ _ (codes "}") _ value c.extend_from_slice-2.ensures.items

pub returns-clause-ok : goal.returns-clause-ok
returns-clause-ok c =
    on_ok_weaker c.extend_from_slice-2.result (λ e. between _ _ _ _ _ _ _ c.in_ok-extend_from_slice.ensures.items c.in_ok-append.ensures.ok e) (on_extended _ c.append.new.out.items (codes "}") _ c.extend_from_slice-2.ensures.items)
