-- What `op_tests::op_fits` owes besides what the check finds.
use Rattle.dialect_core.specs.Checking.{func_at}
use Rattle.dialect_core.proofs.OpTestLemmas.{kind_typed, op_is}
use Rattle.dialect_core.proofs.op_tests.op_fits.Goals as goal

pub kind_fits-requires-clause-kind : goal.kind_fits-requires-clause-kind
kind_fits-requires-clause-kind c = kind_typed c.args.ctx.now c.args.op c.op_kind.result.now c.requires.typed c.op_kind.ensures.kind

pub returns : goal.returns
returns c = op_is c.args.ctx.now (func_at c.args.ctx.now c.args.func) c.args.op c.op_kind.result.now c.op_operands-operands.result.now c.result_type-own.result c.op_successors-edges.result.now c.kind_fits.result c.op_kind.ensures.kind c.op_operands-operands.ensures.operands c.result_type-own.ensures c.op_successors-edges.ensures.successors c.kind_fits.ensures
