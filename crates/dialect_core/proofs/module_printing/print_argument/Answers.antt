-- What `module_printing::print_argument` owes besides what the check finds.
use Rattle.std.proofs.Common.{ℕ, ◌++◌, ap, ◌∙◌}
use Rattle.std.proofs.lemmas.Result.{on_ok_weaker}
use Rattle.dialect_types.specs.Trees.{type_at, type_trees}
use Rattle.dialect_types.proofs.TextLemmas.{keeps_then, keeps_equal}
use Rattle.dialect_core.specs.Numbering.{value_at, block_at}
use Rattle.dialect_core.specs.Text.{argument_text}
use Rattle.dialect_core.proofs.KeepLemmas.{then_appended}
use Rattle.dialect_core.proofs.PrintLemmas.{between}
use Rattle.dialect_core.proofs.module_printing.print_argument.Goals as goal

pub returns-in_err-extend_from_slice-clause-kept : goal.returns-in_err-extend_from_slice-clause-kept
returns-in_err-extend_from_slice-clause-kept c = keeps_equal _ _ _ c.in_ok-print_value.ensures.kept c.in_err-extend_from_slice.ensures.items

pub returns-clause-kept : goal.returns-clause-kept
returns-clause-kept c =
    keeps_then _ _ _ (then_appended _ _ _ _ c.in_ok-print_value.ensures.kept c.in_ok-extend_from_slice.ensures.items) c.append_type.ensures.kept

pub returns-clause-ok : goal.returns-clause-ok
returns-clause-ok c =
    on_ok_weaker c.append_type.result (λ e. between _ _ _ _ _ _ _ c.in_ok-print_value.ensures.ok c.in_ok-extend_from_slice.ensures.items e
    ∙ ap (λ (n : ℕ). c.args.out.now.items ++ argument_text (value_at c.args.numbers.now) (block_at c.args.numbers.now) c.args.block n (type_at (type_trees c.args.types.now) c.args.ty)) c.in_ok-number.ensures) c.append_type.ensures.ok
