-- What `op_tests::kind_fits` owes besides what the check finds.
use Rattle.std.proofs.Common.{ap, length, subst}
use Rattle.dialect_types.specs.Trees.{type_trees}
use Rattle.const_attrs.specs.Trees.{attr_tree, attr_data}
use Rattle.dialect_core.specs.Data.{ConstantOp, FilledOp, RowOp, HasKindTypesBelow, kind_of}
use Rattle.dialect_core.specs.Checking.{func_at}
use Rattle.dialect_core.proofs.OpTestLemmas.{kind_by}
use Rattle.dialect_core.proofs.op_tests.kind_fits.Goals as goal

pub returns-in-Constant : goal.returns-in-Constant
returns-in-Constant c = kind_by c.args.ctx.now (func_at c.args.ctx.now c.args.func) c.args.kind.now c.args.operands.now c.args.own c.args.edges.now (ConstantOp (attr_tree (type_trees c.args.ctx.now.types) (attr_data c.in-Constant.value))) c.constant_op_fits.result (ap (kind_of (type_trees c.args.ctx.now.types)) c.in-Constant.is) (rw c.attr.ensures at c.constant_op_fits.ensures (func_at c.args.ctx.now c.args.func))

pub returns-in-Row : goal.returns-in-Row
returns-in-Row c = kind_by c.args.ctx.now (func_at c.args.ctx.now c.args.func) c.args.kind.now c.args.operands.now c.args.own c.args.edges.now (RowOp c.in-Row.op) c.row_fits.result (ap (kind_of (type_trees c.args.ctx.now.types)) c.in-Row.is) c.row_fits.ensures

pub returns-in-Filled : goal.returns-in-Filled
returns-in-Filled c = kind_by c.args.ctx.now (func_at c.args.ctx.now c.args.func) c.args.kind.now c.args.operands.now c.args.own c.args.edges.now (FilledOp c.in-Filled._fill) c.filled_op_fits.result (ap (kind_of (type_trees c.args.ctx.now.types)) c.in-Filled.is) c.filled_op_fits.ensures

pub constant_op_fits-requires : goal.constant_op_fits-requires
constant_op_fits-requires c =
    let r = c.requires in
    record { value = rw c.attr.ensures (subst (HasKindTypesBelow (length c.args.ctx.now.types)) c.in-Constant.is r.kind); own = r.own; typed = r.typed }

pub row_fits-requires : goal.row_fits-requires
row_fits-requires c = let r = c.requires in record { func = r.func; within = r.within; operands = r.operands; own = r.own; edges = r.edges; typed = r.typed }
