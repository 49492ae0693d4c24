-- An operation with a symbol and a block is a function of the module that has a body.
use Rattle.std.proofs.Common.{Some, ap, length, sym, ◌∙◌}
use Rattle.layer_tests.proofs.TraceLaws.{body_there, some_length}
use Rattle.layer_tests.proofs.traces.dialect_function.Goals as goal

pub returns-then-not-is_empty : goal.returns-then-not-is_empty
returns-then-not-is_empty c =
    body_there c.args.ctx.now c.as_slice-op-items.result.now c.args.root.0.0 c.loop-op.op-index _ c.op_blocks.result.now (c.as_slice-op-items.ensures.value ∙ c.in_ok-ops.ensures.ops) c.loop-op-test.true
    (c.has_symbol.ensures ∙ ap Some c.if-has_symbol.true) c.op_blocks.ensures.blocks (some_length (length c.op_blocks.result.now) (sym c.is_empty.ensures ∙ c.if-not-is_empty.true)) c.op_blocks.ensures.within
