-- What is neither a module nor a function is an operation of a block.
use Rattle.dialect_types.specs.Trees.{type_trees}
use Rattle.to_llvm_ir.proofs.OpLaws.{op_there, kind_there}
use Rattle.to_llvm_ir.proofs.operations.is_block_op.Goals as goal

pub returns-in_default : goal.returns-in_default
returns-in_default c = record {
  yes = λ h.
      let kind = kind_there (type_trees c.args.ctx.now.types) c.op_kind.result.now c.in_default.not-Module c.in_default.not-Func in
      op_there (type_trees c.args.ctx.now.types) c.args.ctx.now.ops c.args.op c.op_kind.result.now kind.0 c.op_kind.ensures.kind kind.1;
  no = λ e. cc;
}
