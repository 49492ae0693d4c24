-- What `module_printing::print_funcs` owes besides what the check finds.
use Rattle.std.proofs.Common.{arith, sym}
use Rattle.std.proofs.lemmas.List.{append-nil}
use Rattle.dialect_types.specs.Trees.{type_trees}
use Rattle.dialect_types.proofs.TextLemmas.{keeps_then, keeps_appended}
use Rattle.dialect_core.specs.declared.numbers.OpRef.{OpRef}
use Rattle.dialect_core.specs.Data.{func_in}
use Rattle.dialect_core.specs.Numbering.{value_at, block_at}
use Rattle.dialect_core.specs.Text.{option_text, func_text}
use Rattle.dialect_core.proofs.PrintLemmas.{printed_more, printed_all}
use Rattle.dialect_core.proofs.module_printing.print_funcs.Goals as goal

pub loop-op-init : goal.loop-op-init
loop-op-init c = record { printed = sym (append-nil _) }

pub returns-in_err-print_func-clause-kept : goal.returns-in_err-print_func-clause-kept
returns-in_err-print_func-clause-kept c = keeps_then _ _ _ (keeps_appended _ _ _ c.loop-op.invariant.printed) c.print_func.ensures.kept

pub loop-op-preserved : goal.loop-op-preserved
loop-op-preserved c =
    printed_more (λ (o : OpRef). option_text (func_text (value_at c.args.numbers.now) (block_at c.args.numbers.now)) (func_in (type_trees c.args.ctx.now.types) c.args.ctx.now o)) c.args.ops.now c.loop-op.op-index (record { 0 = 0 }) _ _ _
    (omega arith) c.loop-op.invariant c.in_ok-print_func.ensures.ok

pub returns-clause-kept : goal.returns-clause-kept
returns-clause-kept c = keeps_appended _ _ _ c.loop-op.invariant.printed

pub returns-clause-ok : goal.returns-clause-ok
returns-clause-ok c =
    printed_all (λ (o : OpRef). option_text (func_text (value_at c.args.numbers.now) (block_at c.args.numbers.now)) (func_in (type_trees c.args.ctx.now.types) c.args.ctx.now o)) c.args.ops.now c.loop-op.op-index _ _ (omega arith) c.loop-op.invariant
