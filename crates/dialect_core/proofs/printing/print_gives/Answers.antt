-- What `printing::print_gives` owes besides what the check finds.
use Rattle.std.proofs.Common.{ℕ, List, Option, ◌++◌, ap, ◌∙◌}
use Rattle.std.proofs.lemmas.Result.{on_ok_weaker}
use Rattle.std.specs.Prelude.{codes}
use Rattle.dialect_core.specs.declared.ops.Value.TheVariants.{Result}
use Rattle.dialect_core.specs.Numbering.{value_at, block_at}
use Rattle.dialect_core.specs.Text.{value_text, colon_text}
use Rattle.dialect_types.proofs.TextLemmas.{keeps_then}
use Rattle.dialect_core.proofs.KeepLemmas.{then_extended, on_extended}
use Rattle.dialect_core.proofs.PrintLemmas.{between}
use Rattle.dialect_core.proofs.printing.print_gives.Goals as goal

pub returns-in_err-print_colon_name-in-Some-clause-kept : goal.returns-in_err-print_colon_name-in-Some-clause-kept
returns-in_err-print_colon_name-in-Some-clause-kept c = keeps_then _ _ _ c.in_ok-print_value-in-Some.ensures.kept c.print_colon_name.ensures.kept

pub returns-in_ok-print_colon_name-in-Some-clause-kept : goal.returns-in_ok-print_colon_name-in-Some-clause-kept
returns-in_ok-print_colon_name-in-Some-clause-kept c =
    let name = keeps_then _ _ _ c.in_ok-print_value-in-Some.ensures.kept c.in_ok-print_colon_name-in-Some.ensures.kept in
    then_extended c.extend_from_slice.result _ _ (codes " = ") _ name c.extend_from_slice.ensures.items

pub returns-in_ok-print_colon_name-in-Some-clause-ok : goal.returns-in_ok-print_colon_name-in-Some-clause-ok
returns-in_ok-print_colon_name-in-Some-clause-ok c =
    on_ok_weaker c.extend_from_slice.result (λ e. rw c.in-Some.is
    (between _ _ _ _ _ _ _ c.in_ok-print_value-in-Some.ensures.ok c.in_ok-print_colon_name-in-Some.ensures.ok e
    ∙ ap (λ (n : Option (List ℕ)). c.args.out.now.items ++ ((value_text (value_at c.args.numbers.now) (block_at c.args.numbers.now) (Result c.args.op) ++ colon_text n) ++ codes " = ")) c.as_ref.ensures.value)) (on_extended _ c.print_colon_name.new.out.items (codes " = ") _ c.extend_from_slice.ensures.items)
