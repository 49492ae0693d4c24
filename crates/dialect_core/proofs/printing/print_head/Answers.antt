-- What `printing::print_head` owes besides what the check finds.
use Rattle.std.proofs.Common.{List, ◌++◌, ap, ◌∙◌}
use Rattle.std.proofs.lemmas.Result.{on_ok_weaker}
use Rattle.dialect_core.specs.declared.ops.Value.{Value}
use Rattle.dialect_core.specs.declared.ops.Successor.{Successor}
use Rattle.dialect_core.specs.Numbering.{value_at, block_at}
use Rattle.dialect_core.specs.Text.{values_text, successors_text}
use Rattle.dialect_types.proofs.TextLemmas.{keeps_then, keeps_appended, keeps_equal}
use Rattle.dialect_core.proofs.KeepLemmas.{then_appended, five_texts}
use Rattle.dialect_core.proofs.printing.print_head.Goals as goal

pub returns-in_err-print_gives-clause-kept : goal.returns-in_err-print_gives-clause-kept
returns-in_err-print_gives-clause-kept c = keeps_then _ _ _ (keeps_appended _ _ _ c.in_ok-extend_from_slice.ensures.items) c.print_gives.ensures.kept

pub returns-in_err-extend_from_slice-2-clause-kept : goal.returns-in_err-extend_from_slice-2-clause-kept
returns-in_err-extend_from_slice-2-clause-kept c =
    let gives = keeps_then _ _ _ (keeps_appended _ _ _ c.in_ok-extend_from_slice.ensures.items) c.in_ok-print_gives.ensures.kept in
    keeps_equal _ _ _ gives c.in_err-extend_from_slice-2.ensures.items

pub returns-in_err-print_values-clause-kept : goal.returns-in_err-print_values-clause-kept
returns-in_err-print_values-clause-kept c =
    let gives = keeps_then _ _ _ (keeps_appended _ _ _ c.in_ok-extend_from_slice.ensures.items) c.in_ok-print_gives.ensures.kept in
    keeps_then _ _ _ (then_appended _ _ _ _ gives c.in_ok-extend_from_slice-2.ensures.items) c.print_values.ensures.kept

pub returns-clause-kept : goal.returns-clause-kept
returns-clause-kept c =
    let gives = keeps_then _ _ _ (keeps_appended _ _ _ c.in_ok-extend_from_slice.ensures.items) c.in_ok-print_gives.ensures.kept in
    let values = keeps_then _ _ _ (then_appended _ _ _ _ gives c.in_ok-extend_from_slice-2.ensures.items) c.in_ok-print_values.ensures.kept in
    keeps_then _ _ _ values c.print_successors.ensures.kept

pub returns-clause-ok : goal.returns-clause-ok
returns-clause-ok c =
    let operands = c.in_ok-print_values.ensures.ok ∙ ap (λ (vs : List Value). c.extend_from_slice-2.new.self.items ++ values_text (value_at c.args.numbers.now) (block_at c.args.numbers.now) vs) c.as_slice.ensures in
    on_ok_weaker c.print_successors.result (λ e. five_texts _ _ _ _ _ _ _ _ _ _ _ c.in_ok-extend_from_slice.ensures.items c.in_ok-print_gives.ensures.ok c.in_ok-extend_from_slice-2.ensures.items operands
    (e ∙ ap (λ (ss : List Successor). c.print_values.new.out.items ++ successors_text (value_at c.args.numbers.now) (block_at c.args.numbers.now) ss) c.as_slice-2.ensures)) c.print_successors.ensures.ok
