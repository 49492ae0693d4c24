-- What the loop of `module_printing::print_blocks` keeps.
use Rattle.dialect_types.specs.Trees.{type_trees}
use Rattle.dialect_core.specs.declared.numbers.BlockRef.{BlockRef}
use Rattle.dialect_core.specs.Data.{block_in}
use Rattle.dialect_core.specs.Numbering.{value_at, block_at}
use Rattle.dialect_core.specs.Text.{option_text, block_text}
use Rattle.dialect_core.proofs.PrintLemmas.{Printed}
use Rattle.dialect_core.proofs.module_printing.print_blocks.Given as goal

abbrev pub invariant-loop-block : goal.invariant-loop-block
invariant-loop-block l = Printed (λ (b : BlockRef). option_text (block_text (value_at l.numbers) (block_at l.numbers)) (block_in (type_trees l.ctx.types) l.ctx b)) l.blocks l.block-index l.initial.out.items l.out.items
