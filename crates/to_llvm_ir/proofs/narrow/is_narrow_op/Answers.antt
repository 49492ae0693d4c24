-- What `narrow::is_narrow_op` owes besides what the check finds.
use Rattle.dialect_core.proofs.OpTestLemmas.{kind_typed}
use Rattle.to_llvm_ir.proofs.NarrowLaws.{result_typed}
use Rattle.to_llvm_ir.proofs.narrow.is_narrow_op.Goals as goal

pub is_held-requires : goal.is_held-requires
is_held-requires c = rw c.types.ensures (result_typed c.args.ctx.now c.args.op c.result_type.result c.in-Some.ty c.requires.typed c.result_type.ensures c.in-Some.is)

pub is_short_kind-requires-clause-kind : goal.is_short_kind-requires-clause-kind
is_short_kind-requires-clause-kind c = kind_typed c.args.ctx.now c.args.op c.op_kind.result.now c.requires.typed c.op_kind.ensures.kind

pub is_short_kind-requires-clause-ty : goal.is_short_kind-requires-clause-ty
is_short_kind-requires-clause-ty c = result_typed c.args.ctx.now c.args.op c.result_type.result c.in-Some.ty c.requires.typed c.result_type.ensures c.in-Some.is
