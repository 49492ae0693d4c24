-- What `printing::print_successor` owes besides what the check finds.
use Rattle.std.proofs.Common.{List, ◌++◌, ap, ◌∙◌}
use Rattle.std.proofs.lemmas.Result.{on_ok_weaker}
use Rattle.support.proofs.ListLaws.{appended_twice}
use Rattle.dialect_types.proofs.TextLemmas.{keeps_then}
use Rattle.dialect_core.specs.declared.ops.Value.{Value}
use Rattle.dialect_core.specs.Numbering.{value_at, block_at}
use Rattle.dialect_core.specs.Text.{block_name_text, values_text}
use Rattle.dialect_core.proofs.printing.print_successor.Goals as goal

pub returns-clause-kept : goal.returns-clause-kept
returns-clause-kept c = keeps_then _ _ _ c.in_ok-print_block_name.ensures.kept c.print_values.ensures.kept

pub returns-clause-ok : goal.returns-clause-ok
returns-clause-ok c =
    let block = block_name_text (value_at c.args.numbers.now) (block_at c.args.numbers.now) c.args.successor.now.block in
    on_ok_weaker c.print_values.result (λ e. appended_twice _ _ _ _ _ c.in_ok-print_block_name.ensures.ok e
    ∙ ap (λ (vs : List Value). c.args.out.now.items ++ (block ++ values_text (value_at c.args.numbers.now) (block_at c.args.numbers.now) vs)) c.as_slice.ensures) c.print_values.ensures.ok
