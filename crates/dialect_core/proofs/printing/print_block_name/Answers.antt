-- What `printing::print_block_name` owes besides what the check finds.
use Rattle.std.proofs.Common.{ℕ, Option, ◌++◌, ap, ◌∙◌}
use Rattle.std.proofs.lemmas.Result.{on_ok_weaker}
use Rattle.std.specs.Prelude.{codes}
use Rattle.support.proofs.ListLaws.{appended_twice}
use Rattle.dialect_types.proofs.TextLemmas.{keeps_then, keeps_appended}
use Rattle.dialect_core.specs.Text.{number_text}
use Rattle.dialect_core.proofs.printing.print_block_name.Goals as goal

pub returns-clause-kept : goal.returns-clause-kept
returns-clause-kept c = keeps_then _ _ _ (keeps_appended _ _ _ c.in_ok-extend_from_slice.ensures.items) c.print_known.ensures.kept

pub returns-clause-ok : goal.returns-clause-ok
returns-clause-ok c =
    on_ok_weaker c.print_known.result (λ e. appended_twice _ _ _ _ _ c.in_ok-extend_from_slice.ensures.items e
    ∙ ap (λ (n : Option ℕ). c.args.out.now.items ++ (codes "^" ++ number_text n)) c.block.ensures) c.print_known.ensures.ok
