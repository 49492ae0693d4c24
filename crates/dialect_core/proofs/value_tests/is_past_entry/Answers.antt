-- What `value_tests::is_past_entry` owes besides what the check finds.
use Rattle.std.proofs.Common.{List, slice_get, ap, sym, ◌∙◌}
use Rattle.dialect_core.specs.declared.numbers.BlockRef.{BlockRef}
use Rattle.dialect_core.specs.ContextData.{region_at}
use Rattle.dialect_core.proofs.TestLemmas.{always}
use Rattle.dialect_core.proofs.FuncLemmas.{region_there, no_entry, past_is}
use Rattle.dialect_core.proofs.value_tests.is_past_entry.Goals as goal

pub returns-in-Some : goal.returns-in-Some
returns-in-Some c =
    let there = region_there c.args.ctx.now (region_at c.args.ctx.now.ops c.args.func.0) c.region.result.now c.region.ensures.blocks c.region.ensures.within in
    past_is c.args.ctx.now c.args.func there c.in-Some.entry.now c.args.block
    (sym (ap (λ (bs : List BlockRef). slice_get bs 0) c.region.ensures.blocks) ∙ sym c.in-Some.ensures.value)

pub returns-in-None : goal.returns-in-None
returns-in-None c =
    let there = region_there c.args.ctx.now (region_at c.args.ctx.now.ops c.args.func.0) c.region.result.now c.region.ensures.blocks c.region.ensures.within in
    always (λ b at. absurd (no_entry c.args.ctx.now c.args.func there (sym (ap (λ (bs : List BlockRef). slice_get bs 0) c.region.ensures.blocks) ∙ sym c.in-None.ensures.value) b at))
