-- What `module_printing::print_blocks` owes besides what the check finds.
use Rattle.std.proofs.Common.{arith, sym}
use Rattle.std.proofs.lemmas.List.{append-nil}
use Rattle.dialect_types.specs.Trees.{type_trees}
use Rattle.dialect_types.proofs.TextLemmas.{keeps_then, keeps_appended}
use Rattle.dialect_core.specs.declared.numbers.BlockRef.{BlockRef}
use Rattle.dialect_core.specs.Data.{block_in}
use Rattle.dialect_core.specs.Numbering.{value_at, block_at}
use Rattle.dialect_core.specs.Text.{option_text, block_text}
use Rattle.dialect_core.proofs.PrintLemmas.{printed_more, printed_all}
use Rattle.dialect_core.proofs.module_printing.print_blocks.Goals as goal

pub loop-block-init : goal.loop-block-init
loop-block-init c = record { printed = sym (append-nil _) }

pub returns-in_err-print_block-clause-kept : goal.returns-in_err-print_block-clause-kept
returns-in_err-print_block-clause-kept c = keeps_then _ _ _ (keeps_appended _ _ _ c.loop-block.invariant.printed) c.print_block.ensures.kept

pub loop-block-preserved : goal.loop-block-preserved
loop-block-preserved c =
    printed_more (λ (b : BlockRef). option_text (block_text (value_at c.args.numbers.now) (block_at c.args.numbers.now)) (block_in (type_trees c.args.ctx.now.types) c.args.ctx.now b)) c.args.blocks.now c.loop-block.block-index (record { 0 = 0 }) _ _ _
    (omega arith) c.loop-block.invariant c.in_ok-print_block.ensures.ok

pub returns-clause-kept : goal.returns-clause-kept
returns-clause-kept c = keeps_appended _ _ _ c.loop-block.invariant.printed

pub returns-clause-ok : goal.returns-clause-ok
returns-clause-ok c =
    printed_all (λ (b : BlockRef). option_text (block_text (value_at c.args.numbers.now) (block_at c.args.numbers.now)) (block_in (type_trees c.args.ctx.now.types) c.args.ctx.now b)) c.args.blocks.now c.loop-block.block-index _ _ (omega arith) c.loop-block.invariant
