-- What `printing::print_successors` owes besides what the check finds.
use Rattle.std.proofs.Common.{ap, arith, sym}
use Rattle.std.specs.Prelude.{codes}
use Rattle.std.proofs.lemmas.List.{append-nil}
use Rattle.std.proofs.lemmas.Result.{on_ok_weaker}
use Rattle.dialect_core.specs.Numbering.{value_at, block_at}
use Rattle.dialect_core.specs.Text.{successor_text}
use Rattle.dialect_types.proofs.TextLemmas.{keeps_then, keeps_appended}
use Rattle.dialect_core.proofs.KeepLemmas.{then_appended, then_extended, on_extended}
use Rattle.dialect_core.proofs.PrintLemmas.{joined_more, joined_all, successors_printed}
use Rattle.dialect_core.proofs.printing.print_successors.Goals as goal

pub loop-i-init : goal.loop-i-init
loop-i-init c = record { printed = sym (append-nil _) }

pub returns-in_err-print_comma_before-clause-kept : goal.returns-in_err-print_comma_before-clause-kept
returns-in_err-print_comma_before-clause-kept c =
    let successors = then_appended _ _ _ _ (keeps_appended _ _ _ c.in_ok-extend_from_slice.ensures.items) c.loop-i.invariant.printed in
    keeps_then _ _ _ successors c.print_comma_before.ensures.kept

pub returns-in_err-print_successor-clause-kept : goal.returns-in_err-print_successor-clause-kept
returns-in_err-print_successor-clause-kept c =
    let successors = then_appended _ _ _ _ (keeps_appended _ _ _ c.in_ok-extend_from_slice.ensures.items) c.loop-i.invariant.printed in
    keeps_then _ _ _ (keeps_then _ _ _ successors c.in_ok-print_comma_before.ensures.kept) c.print_successor.ensures.kept

pub returns-clause-kept : goal.returns-clause-kept
returns-clause-kept c =
    let successors = then_appended _ _ _ _ (keeps_appended _ _ _ c.in_ok-extend_from_slice.ensures.items) c.loop-i.invariant.printed in
    then_extended c.extend_from_slice-2.result _ _ (codes "]") _ successors c.extend_from_slice-2.ensures.items

pub loop-i-preserved : goal.loop-i-preserved
loop-i-preserved c =
    joined_more (successor_text (value_at c.args.numbers.now) (block_at c.args.numbers.now)) c.args.successors.now c.loop-i.i c.index-successors-i.result _ c.loop-i.out.items c.print_comma_before.new.out.items c.print_successor.new.out.items _ c.loop-i-test.true c.loop-i.invariant c.in_ok-print_comma_before.ensures.ok (ap (successor_text (value_at c.args.numbers.now) (block_at c.args.numbers.now)) c.index-successors-i.is) c.in_ok-print_successor.ensures.ok

pub returns-clause-ok : goal.returns-clause-ok
returns-clause-ok c =
    let inner = joined_all (successor_text (value_at c.args.numbers.now) (block_at c.args.numbers.now)) c.args.successors.now c.loop-i.i _ _ (omega arith) c.loop-i.invariant in
    on_ok_weaker c.extend_from_slice-2.result (λ e. successors_printed (value_at c.args.numbers.now) (block_at c.args.numbers.now) c.args.successors.now _ _ _ _ (λ empty. grind (arith, c.is_empty.ensures, c.if-is_empty.false, empty))
    c.in_ok-extend_from_slice.ensures.items inner e) (on_extended _ c.loop-i.out.items (codes "]") _ c.extend_from_slice-2.ensures.items)
