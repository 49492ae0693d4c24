-- What `narrow::are_narrow_blocks` owes besides what the check finds.
use Rattle.std.proofs.Common.{sym, ◌∙◌}
use Rattle.dialect_core.proofs.TestLemmas.{empty_is, no_true}
use Rattle.to_llvm_ir.proofs.NarrowLaws.{blocks_narrow, no_blocks}
use Rattle.to_llvm_ir.proofs.narrow.are_narrow_blocks.Goals as goal

pub returns-then-is_empty : goal.returns-then-is_empty
returns-then-is_empty c = no_blocks c.args.ctx.now c.args.blocks.now ((empty_is c.args.blocks.now c.is_empty.result c.is_empty.ensures).0 c.if-is_empty.true)

pub returns : goal.returns
returns c = blocks_narrow c.args.ctx.now c.args.blocks.now c.all_narrow.result (λ none. no_true (sym c.if-is_empty.false ∙ (empty_is c.args.blocks.now c.is_empty.result c.is_empty.ensures).1 none)) c.all_narrow.ensures
