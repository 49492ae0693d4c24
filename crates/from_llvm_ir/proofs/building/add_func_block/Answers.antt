-- What `building::add_func_block` owes besides what the check finds.
use Rattle.std.proofs.Common.{refl}
use Rattle.std.proofs.lemmas.Result.{IfOk-weaker}
use Rattle.support.proofs.ResultLaws.{ok_both}
use Rattle.from_llvm_ir.proofs.BuildLaws.{added_block, func_still, one_block}
use Rattle.from_llvm_ir.proofs.building.add_func_block.Goals as goal

pub returns-clause-building : goal.returns-clause-building
returns-clause-building c =
    let r = c.add_bare_block.result in
    let e = c.add_bare_block.ensures in
    IfOk-weaker r _ _
    (λ block is m body d h.
    added_block c.args.ctx.now c.add_bare_block.new.ctx m body d block c.args.func.0 c.args.label c.args.args.now h c.requires.func
    is.0.0 is.0.1 (is.1.0 m) c.requires.args is.1.1)
    (ok_both r _ _ (ok_both r _ _ e.ok e.number) (ok_both r _ _ e.data e.bare))

pub returns-clause-func : goal.returns-clause-func
returns-clause-func c = IfOk-weaker c.add_bare_block.result _ _ (λ block is. func_still c.args.ctx.now c.add_bare_block.new.ctx block c.args.func.0 _ refl c.requires.func is) c.add_bare_block.ensures.ok

pub returns-clause-count : goal.returns-clause-count
returns-clause-count c = IfOk-weaker c.add_bare_block.result _ _ (λ block is. one_block c.args.ctx.now c.add_bare_block.new.ctx block _ is) c.add_bare_block.ensures.ok
