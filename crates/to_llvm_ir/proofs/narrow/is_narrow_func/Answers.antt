-- What `narrow::is_narrow_func` owes besides what the check finds.
use Rattle.std.proofs.Common.{sym, ◌∙◌}
use Rattle.dialect_core.specs.ContextData.{region_at}
use Rattle.dialect_core.proofs.TestLemmas.{never, no_true}
use Rattle.dialect_core.proofs.FuncLemmas.{region_there}
use Rattle.to_llvm_ir.proofs.FuncDataLaws.{func_head, func_is}
use Rattle.to_llvm_ir.proofs.narrow.is_narrow_func.Goals as goal

pub returns-then-not-is_narrow_head : goal.returns-then-not-is_narrow_head
returns-then-not-is_narrow_head c = never (λ h. no_true (sym c.if-not-is_narrow_head.true ∙ c.is_narrow_head.ensures.1 (func_head c.args.ctx.now c.args.func h)))

pub returns : goal.returns
returns c =
    let there = region_there c.args.ctx.now (region_at c.args.ctx.now.ops c.args.func.0) c.region-blocks.result.now c.region-blocks.ensures.blocks c.region-blocks.ensures.within in
    func_is c.args.ctx.now c.args.func there c.requires.plain c.region-blocks.result.now c.are_narrow_blocks.result c.region-blocks.ensures.blocks (c.is_narrow_head.ensures.0 c.if-not-is_narrow_head.false) c.are_narrow_blocks.ensures
