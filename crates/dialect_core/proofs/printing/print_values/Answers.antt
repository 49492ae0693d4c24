-- What `printing::print_values` owes besides what the check finds.
use Rattle.std.proofs.Common.{arith, refl, sym}
use Rattle.std.specs.Prelude.{codes}
use Rattle.std.proofs.lemmas.List.{append-nil}
use Rattle.std.proofs.lemmas.Result.{on_ok_weaker}
use Rattle.dialect_core.specs.declared.ops.Value.TheVariants.{Result}
use Rattle.dialect_core.specs.Numbering.{value_at, block_at}
use Rattle.dialect_core.specs.Text.{value_text}
use Rattle.dialect_types.proofs.TextLemmas.{keeps_then, keeps_appended}
use Rattle.dialect_core.proofs.KeepLemmas.{then_appended, then_extended, on_extended}
use Rattle.dialect_core.proofs.PrintLemmas.{between, joined_more, joined_all}
use Rattle.dialect_core.proofs.printing.print_values.Goals as goal

pub loop-i-init : goal.loop-i-init
loop-i-init c = record { printed = sym (append-nil _) }

pub returns-in_err-print_comma_before-clause-kept : goal.returns-in_err-print_comma_before-clause-kept
returns-in_err-print_comma_before-clause-kept c =
    let values = then_appended _ _ _ _ (keeps_appended _ _ _ c.in_ok-extend_from_slice.ensures.items) c.loop-i.invariant.printed in
    keeps_then _ _ _ values c.print_comma_before.ensures.kept

pub returns-in_err-print_value-clause-kept : goal.returns-in_err-print_value-clause-kept
returns-in_err-print_value-clause-kept c =
    let values = then_appended _ _ _ _ (keeps_appended _ _ _ c.in_ok-extend_from_slice.ensures.items) c.loop-i.invariant.printed in
    keeps_then _ _ _ (keeps_then _ _ _ values c.in_ok-print_comma_before.ensures.kept) c.print_value.ensures.kept

pub returns-clause-kept : goal.returns-clause-kept
returns-clause-kept c =
    let values = then_appended _ _ _ _ (keeps_appended _ _ _ c.in_ok-extend_from_slice.ensures.items) c.loop-i.invariant.printed in
    then_extended c.extend_from_slice-2.result _ _ (codes ")") _ values c.extend_from_slice-2.ensures.items

pub loop-i-preserved : goal.loop-i-preserved
loop-i-preserved c =
    joined_more (value_text (value_at c.args.numbers.now) (block_at c.args.numbers.now)) c.args.values.now c.loop-i.i (Result (record { 0 = 0 })) _ c.loop-i.out.items c.print_comma_before.new.out.items c.print_value.new.out.items _ c.loop-i-test.true c.loop-i.invariant c.in_ok-print_comma_before.ensures.ok refl c.in_ok-print_value.ensures.ok

pub returns-clause-ok : goal.returns-clause-ok
returns-clause-ok c =
    let inner = joined_all (value_text (value_at c.args.numbers.now) (block_at c.args.numbers.now)) c.args.values.now c.loop-i.i _ _ (omega arith) c.loop-i.invariant in
    on_ok_weaker c.extend_from_slice-2.result (λ e. between _ _ _ _ _ _ _ c.in_ok-extend_from_slice.ensures.items inner e) (on_extended _ c.loop-i.out.items (codes ")") _ c.extend_from_slice-2.ensures.items)
