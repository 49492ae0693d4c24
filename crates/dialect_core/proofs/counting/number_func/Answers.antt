-- What `counting::number_func` owes besides what the check finds.
use Rattle.std.proofs.Common.{sym, ap, ◌∙◌}
use Rattle.std.proofs.lemmas.Result.{on_ok_weaker}
use Rattle.dialect_core.specs.ContextData.{is_func}
use Rattle.dialect_core.proofs.CountLemmas.{func_values_are, func_blocks_are}
use Rattle.dialect_core.proofs.counting.number_func.Goals as goal

pub returns-in-Func : goal.returns-in-Func
returns-in-Func c =
    let symbol = sym (ap is_func c.in-Func.is) ∙ c.op_kind.ensures.symbol in
    on_ok_weaker c.number_blocks.result (λ e. rw (func_values_are c.args.ctx.now c.args.op c.op_blocks.result.now symbol c.op_blocks.ensures.blocks, func_blocks_are c.args.ctx.now c.args.op c.op_blocks.result.now symbol c.op_blocks.ensures.blocks c.op_blocks.ensures.within) e) c.number_blocks.ensures
