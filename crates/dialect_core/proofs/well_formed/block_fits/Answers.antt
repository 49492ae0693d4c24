-- What `well_formed::block_fits` owes besides what the check finds.
use Rattle.std.proofs.Common.{not, ap, sym, ◌∙◌}
use Rattle.dialect_core.specs.Checking.{func_at}
use Rattle.dialect_core.proofs.TestLemmas.{never, no_true}
use Rattle.dialect_core.proofs.FuncTestLemmas.{block_none, block_wide, block_is}
use Rattle.dialect_core.proofs.well_formed.block_fits.Goals as goal

pub returns-then-is_none : goal.returns-then-is_none
returns-then-is_none c = never (block_none c.args.ctx.now (func_at c.args.ctx.now c.args.func) c.args.block c.first_in_block.result c.first_in_block.ensures.head (c.is_none.ensures ∙ ap not c.if-is_none.true))

pub returns-then-not-all_first_class : goal.returns-then-not-all_first_class
returns-then-not-all_first_class c =
    let valued = rw c.types.ensures at c.all_first_class.ensures in
    never (block_wide c.args.ctx.now (func_at c.args.ctx.now c.args.func) c.args.block c.block_args.result.now c.block_args.ensures (λ all. no_true (sym c.if-not-all_first_class.true ∙ valued.1 all)))

pub returns : goal.returns
returns c =
    let valued = rw c.types.ensures at c.all_first_class.ensures in
    block_is c.args.ctx.now (func_at c.args.ctx.now c.args.func) c.args.block c.block_args.result.now c.block_args.ensures c.first_in_block.result c.lines_fit.result c.first_in_block.ensures.head (c.is_none.ensures ∙ ap not c.if-is_none.false) (valued.0 c.if-not-all_first_class.false) c.lines_fit.ensures
