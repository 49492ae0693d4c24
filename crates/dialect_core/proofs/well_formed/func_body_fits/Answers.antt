-- What `well_formed::func_body_fits` owes besides what the check finds.
use Rattle.dialect_core.specs.ContextData.{region_at}
use Rattle.dialect_core.proofs.FuncLemmas.{region_there}
use Rattle.dialect_core.proofs.FuncTestLemmas.{body_is}
use Rattle.dialect_core.proofs.well_formed.func_body_fits.Goals as goal

pub returns : goal.returns
returns c =
    let there = region_there c.args.ctx.now (region_at c.args.ctx.now.ops c.args.func.0) c.region-region.result.now c.region-region.ensures.blocks c.region-region.ensures.within in
    body_is c.args.ctx.now c.args.func there c.region-region.result.now c.blocks_fit.result c.region-region.ensures.blocks c.region-region.ensures.once c.region-region.ensures.ops_once c.requires.kind (c.head_fits.ensures.0 c.if-not-head_fits.false) (c.entry_fits.ensures.0 c.if-not-entry_fits.false) c.blocks_fit.ensures
