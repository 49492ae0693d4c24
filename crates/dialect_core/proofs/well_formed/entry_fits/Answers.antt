-- What `well_formed::entry_fits` owes besides what the check finds.
use Rattle.std.proofs.Common.{List, slice_get, ap, sym, ◌∙◌}
use Rattle.dialect_core.specs.declared.numbers.BlockRef.{BlockRef}
use Rattle.dialect_core.specs.ContextData.{region_at}
use Rattle.dialect_core.proofs.ModulePrintLemmas.{symbol_typed}
use Rattle.dialect_core.proofs.TestLemmas.{always}
use Rattle.dialect_core.proofs.FuncLemmas.{region_there, no_entry}
use Rattle.dialect_core.proofs.FuncTestLemmas.{entry_is}
use Rattle.dialect_core.proofs.well_formed.entry_fits.Goals as goal

pub takes-requires-clause-ty : goal.takes-requires-clause-ty
takes-requires-clause-ty c = rw c.types.ensures (symbol_typed c.args.ctx.now c.args.func c.symbol_type.result c.requires.typed c.symbol_type.ensures)

pub returns-in-Some : goal.returns-in-Some
returns-in-Some c =
    let there = region_there c.args.ctx.now (region_at c.args.ctx.now.ops c.args.func.0) c.region.result.now c.region.ensures.blocks c.region.ensures.within in
    entry_is c.args.ctx.now c.args.func there c.in-Some.entry.now c.block_args.result.now c.symbol_type.result c.takes.result (sym (ap (λ (bs : List BlockRef). slice_get bs 0) c.region.ensures.blocks) ∙ sym c.in-Some.ensures.value) c.block_args.ensures c.symbol_type.ensures (rw c.types.ensures at c.takes.ensures)

pub returns-in-None : goal.returns-in-None
returns-in-None c =
    let there = region_there c.args.ctx.now (region_at c.args.ctx.now.ops c.args.func.0) c.region.result.now c.region.ensures.blocks c.region.ensures.within in
    always (λ b at. absurd (no_entry c.args.ctx.now c.args.func there (sym (ap (λ (bs : List BlockRef). slice_get bs 0) c.region.ensures.blocks) ∙ sym c.in-None.ensures.value) b at))
