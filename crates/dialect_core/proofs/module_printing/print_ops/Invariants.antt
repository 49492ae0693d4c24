-- What the loop of `module_printing::print_ops` keeps.
use Rattle.dialect_types.specs.Trees.{type_trees}
use Rattle.dialect_core.specs.declared.numbers.OpRef.{OpRef}
use Rattle.dialect_core.specs.Data.{op_at}
use Rattle.dialect_core.specs.Numbering.{value_at, block_at}
use Rattle.dialect_core.specs.Text.{option_text, op_text}
use Rattle.dialect_core.proofs.PrintLemmas.{Printed}
use Rattle.dialect_core.proofs.module_printing.print_ops.Given as goal

abbrev pub invariant-loop-op : goal.invariant-loop-op
invariant-loop-op l = Printed (λ (o : OpRef). option_text (op_text (value_at l.numbers) (block_at l.numbers)) (op_at (type_trees l.ctx.types) l.ctx.ops o)) l.ops l.op-index l.initial.out.items l.out.items
