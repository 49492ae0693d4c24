-- What `well_formed::linkage_fits` owes besides what the check finds.
use Rattle.std.proofs.Common.{List, slice_get, ap, sym, ◌∙◌}
use Rattle.dialect_core.specs.declared.numbers.BlockRef.{BlockRef}
use Rattle.dialect_core.specs.ContextData.{region_at}
use Rattle.dialect_core.proofs.FuncLemmas.{region_there}
use Rattle.dialect_core.proofs.FuncTestLemmas.{linkage_body, linkage_alone}
use Rattle.dialect_core.proofs.well_formed.linkage_fits.Goals as goal

pub returns-in-Some : goal.returns-in-Some
returns-in-Some c =
    let there = region_there c.args.ctx.now (region_at c.args.ctx.now.ops c.args.func.0) c.region.result.now c.region.ensures.blocks c.region.ensures.within in
    linkage_body c.args.ctx.now c.args.func there c.symbol_linkage-linkage.result _ c.is_for_body.result c.symbol_linkage-linkage.ensures (sym (ap (λ (bs : List BlockRef). slice_get bs 0) c.region.ensures.blocks) ∙ sym c.in-Some.ensures.value) c.is_for_body.ensures

pub returns-in-None : goal.returns-in-None
returns-in-None c =
    let there = region_there c.args.ctx.now (region_at c.args.ctx.now.ops c.args.func.0) c.region.result.now c.region.ensures.blocks c.region.ensures.within in
    linkage_alone c.args.ctx.now c.args.func there c.symbol_linkage-linkage.result c.is_for_declaration.result c.symbol_linkage-linkage.ensures (sym (ap (λ (bs : List BlockRef). slice_get bs 0) c.region.ensures.blocks) ∙ sym c.in-None.ensures.value) c.is_for_declaration.ensures
