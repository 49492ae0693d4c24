-- What `module_printing::print_func` owes besides what the check finds.
use Rattle.std.proofs.Common.{List, ap, ◌++◌, ◌∙◌}
use Rattle.std.specs.Option.{option_copied}
use Rattle.std.proofs.lemmas.Result.{on_ok_weaker}
use Rattle.dialect_types.specs.Trees.{type_at, type_trees}
use Rattle.dialect_types.specs.declared.types.TypeKind.{TypeKind}
use Rattle.dialect_types.proofs.TextLemmas.{keeps_then}
use Rattle.dialect_core.specs.Numbering.{value_at, block_at}
use Rattle.dialect_core.specs.Text.{func_head_text}
use Rattle.dialect_core.proofs.ModulePrintLemmas.{func_printed, symbol_typed}
use Rattle.dialect_core.proofs.module_printing.print_func.Goals as goal

pub print_func_head-requires : goal.print_func_head-requires
print_func_head-requires c = rw c.types.ensures (symbol_typed c.args.ctx.now c.args.op c.symbol_type-ty.result c.requires.typed c.symbol_type-ty.ensures)

pub returns-in_ok-print_func_head-in-Func-clause-kept : goal.returns-in_ok-print_func_head-in-Func-clause-kept
returns-in_ok-print_func_head-in-Func-clause-kept c = keeps_then _ _ _ c.in_ok-print_func_head-in-Func.ensures.kept c.print_body.ensures.kept

pub returns-in_ok-print_func_head-in-Func-clause-ok : goal.returns-in_ok-print_func_head-in-Func-clause-ok
returns-in_ok-print_func_head-in-Func-clause-ok c =
    let head = c.in_ok-print_func_head-in-Func.ensures.ok ∙ ap (λ (ks : List TypeKind). c.args.out.now.items ++ func_head_text c.name_of.result.now (type_at (type_trees ks) c.symbol_type-ty.result) c.symbol_linkage-linkage.result (option_copied c.llvm_symbol_name-llvm_name.result)) c.types.ensures in
    on_ok_weaker c.print_body.result (λ e. func_printed (value_at c.args.numbers.now) (block_at c.args.numbers.now) c.args.ctx.now c.args.op c.name_of.result.now c.symbol_type-ty.result c.symbol_linkage-linkage.result (option_copied c.llvm_symbol_name-llvm_name.result) c.op_blocks.result.now c.args.out.now.items _ _
    c.name_of.ensures c.llvm_symbol_name-llvm_name.ensures c.symbol_type-ty.ensures c.symbol_linkage-linkage.ensures c.op_blocks.ensures.blocks head e) c.print_body.ensures.ok
