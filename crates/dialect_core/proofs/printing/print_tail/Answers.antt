-- What `printing::print_tail` owes besides what the check finds.
use Rattle.std.proofs.lemmas.Result.{on_ok_weaker}
use Rattle.std.specs.Prelude.{codes}
use Rattle.support.proofs.ListLaws.{appended_twice}
use Rattle.dialect_core.proofs.KeepLemmas.{then_extended, on_extended}
use Rattle.dialect_core.proofs.printing.print_tail.Goals as goal

pub returns-clause-kept : goal.returns-clause-kept
returns-clause-kept c = then_extended c.extend_from_slice.result _ _ (codes "\n") _ c.in_ok-print_result_type.ensures.kept c.extend_from_slice.ensures.items

pub returns-clause-ok : goal.returns-clause-ok
returns-clause-ok c =
    on_ok_weaker c.extend_from_slice.result (λ e. appended_twice _ _ _ _ _ c.in_ok-print_result_type.ensures.ok e) (on_extended _ c.print_result_type.new.out.items (codes "\n") _ c.extend_from_slice.ensures.items)
