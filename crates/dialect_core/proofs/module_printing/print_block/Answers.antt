-- What `module_printing::print_block` owes besides what the check finds.
use Rattle.std.proofs.Common.{List, map, ap, ◌++◌, ◌∙◌}
use Rattle.std.proofs.lemmas.Result.{on_ok_weaker}
use Rattle.std.specs.Option.{option_copied}
use Rattle.dialect_types.specs.Trees.{type_at, type_trees}
use Rattle.dialect_types.specs.declared.types.TypeKind.{TypeKind}
use Rattle.dialect_types.proofs.TextLemmas.{keeps_then}
use Rattle.dialect_core.specs.Numbering.{value_at, block_at}
use Rattle.dialect_core.specs.Text.{label_text}
use Rattle.dialect_core.proofs.ModulePrintLemmas.{block_printed}
use Rattle.dialect_core.proofs.module_printing.print_block.Goals as goal

pub returns-in_err-ops-clause-kept : goal.returns-in_err-ops-clause-kept
returns-in_err-ops-clause-kept c = c.in_ok-print_label.ensures.kept

pub returns-clause-kept : goal.returns-clause-kept
returns-clause-kept c = keeps_then _ _ _ c.in_ok-print_label.ensures.kept c.print_ops.ensures.kept

pub returns-clause-ok : goal.returns-clause-ok
returns-clause-ok c =
    let line = c.in_ok-print_label.ensures.ok ∙ ap (λ (ks : List TypeKind). c.args.out.now.items ++ label_text (value_at c.args.numbers.now) (block_at c.args.numbers.now) c.args.block (option_copied c.block_label.result) (map (type_at (type_trees ks)) c.block_args.result.now)) c.types.ensures in
    on_ok_weaker c.print_ops.result (λ e. block_printed (value_at c.args.numbers.now) (block_at c.args.numbers.now) c.args.ctx.now c.args.block (option_copied c.block_label.result) c.block_args.result.now c.as_slice.result.now c.args.out.now.items _ _ c.block_label.ensures c.block_args.ensures (c.as_slice.ensures.value ∙ c.in_ok-ops.ensures.ops) line e) c.print_ops.ensures.ok
