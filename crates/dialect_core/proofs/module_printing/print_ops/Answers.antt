-- What `module_printing::print_ops` owes besides what the check finds.
use Rattle.std.proofs.Common.{List, Option, ◌++◌, ◌∙◌, ap, arith, get_or, sym}
use Rattle.std.proofs.lemmas.List.{append-nil}
use Rattle.std.specs.Option.{option_and_then}
use Rattle.dialect_types.specs.Trees.{type_trees}
use Rattle.dialect_types.specs.declared.types.TypeKind.{TypeKind}
use Rattle.dialect_types.proofs.TextLemmas.{keeps_then, keeps_appended}
use Rattle.dialect_core.specs.declared.numbers.OpRef.{OpRef}
use Rattle.dialect_core.specs.Data.{DialectOp, op_at, op_of}
use Rattle.dialect_core.specs.Numbering.{value_at, block_at}
use Rattle.dialect_core.specs.Text.{option_text, op_text}
use Rattle.dialect_core.proofs.PrintLemmas.{printed_more, printed_all}
use Rattle.dialect_core.proofs.module_printing.print_ops.Goals as goal

pub print_op-requires : goal.print_op-requires
print_op-requires c = rw c.types.ensures (c.requires.typed.ops _ _ c.op_data.ensures)

pub loop-op-init : goal.loop-op-init
loop-op-init c = record { printed = sym (append-nil _) }

pub returns-in_err-print_op-clause-kept : goal.returns-in_err-print_op-clause-kept
returns-in_err-print_op-clause-kept c = keeps_then _ _ _ (keeps_appended _ _ _ c.loop-op.invariant.printed) c.print_op.ensures.kept

pub loop-op-preserved : goal.loop-op-preserved
loop-op-preserved c =
    let text = op_text (value_at c.args.numbers.now) (block_at c.args.numbers.now) in
    let op : OpRef = get_or c.args.ops.now c.loop-op.op-index (record { 0 = 0 }) in
    printed_more (λ (o : OpRef). option_text (op_text (value_at c.args.numbers.now) (block_at c.args.numbers.now)) (op_at (type_trees c.args.ctx.now.types) c.args.ctx.now.ops o)) c.args.ops.now c.loop-op.op-index (record { 0 = 0 }) _ _ _
    (omega arith) c.loop-op.invariant
    (c.in_ok-print_op.ensures.ok
    ∙ ap (λ (ks : List TypeKind). c.loop-op.out.items ++ option_text text (op_of (type_trees ks) op c.op_data.result.now)) c.types.ensures
    ∙ ap (λ (o : Option DialectOp). c.loop-op.out.items ++ option_text text o) (ap (option_and_then (op_of (type_trees c.args.ctx.now.types) op)) (sym c.op_data.ensures)))

pub returns-clause-kept : goal.returns-clause-kept
returns-clause-kept c = keeps_appended _ _ _ c.loop-op.invariant.printed

pub returns-clause-ok : goal.returns-clause-ok
returns-clause-ok c =
    printed_all (λ (o : OpRef). option_text (op_text (value_at c.args.numbers.now) (block_at c.args.numbers.now)) (op_at (type_trees c.args.ctx.now.types) c.args.ctx.now.ops o)) c.args.ops.now c.loop-op.op-index _ _ (omega arith) c.loop-op.invariant
