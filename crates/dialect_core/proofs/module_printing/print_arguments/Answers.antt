-- What `module_printing::print_arguments` owes besides what the check finds.
use Rattle.std.proofs.Common.{arith, sym}
use Rattle.std.proofs.lemmas.List.{append-nil}
use Rattle.dialect_types.specs.Trees.{type_trees}
use Rattle.dialect_types.proofs.TextLemmas.{keeps_then, keeps_appended}
use Rattle.dialect_core.specs.Numbering.{value_at, block_at}
use Rattle.dialect_core.proofs.ArgumentPrintLemmas.{arguments_more, arguments_all}
use Rattle.dialect_core.proofs.module_printing.print_arguments.Goals as goal

pub loop-i-init : goal.loop-i-init
loop-i-init c = record { printed = sym (append-nil _) }

pub returns-in_err-print_comma_before-clause-kept : goal.returns-in_err-print_comma_before-clause-kept
returns-in_err-print_comma_before-clause-kept c = keeps_then _ _ _ (keeps_appended _ _ _ c.loop-i.invariant.printed) c.print_comma_before.ensures.kept

pub returns-in_err-print_argument-clause-kept : goal.returns-in_err-print_argument-clause-kept
returns-in_err-print_argument-clause-kept c =
    let comma = keeps_then _ _ _ (keeps_appended _ _ _ c.loop-i.invariant.printed) c.in_ok-print_comma_before.ensures.kept in
    keeps_then _ _ _ comma c.print_argument.ensures.kept

pub loop-i-preserved : goal.loop-i-preserved
loop-i-preserved c =
    arguments_more (value_at c.args.numbers.now) (block_at c.args.numbers.now) (type_trees c.args.types.now) c.args.block c.args.args.now c.loop-i.i (record { 0 = 0 }) c.args.out.now.items c.loop-i.out.items c.print_comma_before.new.out.items c.print_argument.new.out.items
    c.loop-i-test.true c.loop-i.invariant c.in_ok-print_comma_before.ensures.ok c.in_ok-print_argument.ensures.ok

pub returns-clause-kept : goal.returns-clause-kept
returns-clause-kept c = keeps_appended _ _ _ c.loop-i.invariant.printed

pub returns-clause-ok : goal.returns-clause-ok
returns-clause-ok c = arguments_all (value_at c.args.numbers.now) (block_at c.args.numbers.now) (type_trees c.args.types.now) c.args.block c.args.args.now c.loop-i.i _ _ (omega arith) c.loop-i.invariant
