-- One operation more, or what is none of the block.
use Rattle.std.proofs.Common.{◌+◌, ◌∙◌, get_or}
use Rattle.dialect_types.specs.Trees.{type_trees}
use Rattle.dialect_core.specs.Data.{op_at}
use Rattle.to_llvm_ir.specs.Causes.{IsFuncCause}
use Rattle.to_llvm_ir.proofs.ListLaws.{by_option}
use Rattle.to_llvm_ir.proofs.ResultLaws.{passed}
use Rattle.to_llvm_ir.proofs.OpsLaws.{spot_of, count_to}
use Rattle.to_llvm_ir.proofs.BodyLaws.{listed, target_there}
use Rattle.to_llvm_ir.proofs.LinkedLaws.{AreLinked, linked_start, linked_some, linked_none, linked_all, linked_block, linked_accepted, op_next, linked_given}
use Rattle.to_llvm_ir.proofs.edges.add_block_edges.Goals as goal

pub target_of-from-requires : goal.target_of-from-requires
target_of-from-requires c =
    let h = c.requires.next.4 in
    target_there c.args.ctx.now c.requires.next.0 c.requires.next.1 c.requires.next.2 c.args.block c.args.blocks.now h.at h.mapped

pub loop-op-init : goal.loop-op-init
loop-op-init c = λ t j b given h. linked_start t j b given c.args.values.now c.args.back.now h.state

pub add_op_edges-requires-clause-next : goal.add_op_edges-requires-clause-next
add_op_edges-requires-clause-next c = λ o is.
    let t = c.requires.next.0 in
    let j = c.requires.next.1 in
    let b = c.requires.next.2 in
    let given = c.requires.next.3 in
    let h = c.requires.next.4 in
    let ops = c.as_slice-op-items.result.now in (
      spot_of c.args.ctx.now ops c.loop-op.op-index t j b o,
      linked_given t j b (count_to c.args.ctx.now ops c.loop-op.op-index) given,
      op_next c.args.ctx.now t j b c.args.block ops c.loop-op.op-index _ o c.args.blocks.now c.target_of-from.result given c.args.values.now c.args.back.now c.loop-op.back h (c.as_slice-op-items.ensures.value ∙ c.in_ok-read_ops.ensures.ops) c.target_of-from.ensures c.loop-op-test.true is (c.loop-op.invariant t j b given h),
    )

pub returns-in_err-add_op_edges-clause-cause : goal.returns-in_err-add_op_edges-clause-cause
returns-in_err-add_op_edges-clause-cause c = λ t j b given h.
    let ops = c.as_slice-op-items.result.now in
    passed c.from_residual-in_err-add_op_edges.result c.in_err-add_op_edges.field-0.0 (IsFuncCause c.args.ctx.now t.source) c.from_residual-in_err-add_op_edges.ensures.1
    (by_option (IsFuncCause c.args.ctx.now t.source c.in_err-add_op_edges.field-0.0) (op_at (type_trees c.args.ctx.now.types) c.args.ctx.now.ops (get_or ops c.loop-op.op-index _))
    (λ is. absurd (let e = (c.in_err-add_op_edges.ensures.skipped is).0 in cc))
    (λ o is.
    c.in_err-add_op_edges.ensures.cause (spot_of c.args.ctx.now ops c.loop-op.op-index t j b o) (linked_given t j b (count_to c.args.ctx.now ops c.loop-op.op-index) given)
    (op_next c.args.ctx.now t j b c.args.block ops c.loop-op.op-index _ o c.args.blocks.now c.target_of-from.result given c.args.values.now c.args.back.now c.loop-op.back h (c.as_slice-op-items.ensures.value ∙ c.in_ok-read_ops.ensures.ops) c.target_of-from.ensures c.loop-op-test.true is (c.loop-op.invariant t j b given h))))

pub loop-op-preserved : goal.loop-op-preserved
loop-op-preserved c = λ t j b given h.
    let ops = c.as_slice-op-items.result.now in
    let done = c.loop-op.invariant t j b given h in
    let list = listed c.args.ctx.now t j b c.args.block ops h.at (c.as_slice-op-items.ensures.value ∙ c.in_ok-read_ops.ensures.ops) in
    by_option (AreLinked t j b (count_to c.args.ctx.now ops (c.loop-op.op-index + 1)) given c.args.values.now c.add_op_edges.new.back) (op_at (type_trees c.args.ctx.now.types) c.args.ctx.now.ops (get_or ops c.loop-op.op-index _))
    (λ is. linked_none c.args.ctx.now t j b ops c.loop-op.op-index _ given c.args.values.now c.loop-op.back c.add_op_edges.new.back c.loop-op-test.true is (c.in_ok-add_op_edges.ensures.skipped is).1 done)
    (λ o is.
    let s = spot_of c.args.ctx.now ops c.loop-op.op-index t j b o in
    let so_far = linked_given t j b (count_to c.args.ctx.now ops c.loop-op.op-index) given in
    let next = op_next c.args.ctx.now t j b c.args.block ops c.loop-op.op-index _ o c.args.blocks.now c.target_of-from.result given c.args.values.now c.args.back.now c.loop-op.back h (c.as_slice-op-items.ensures.value ∙ c.in_ok-read_ops.ensures.ops) c.target_of-from.ensures c.loop-op-test.true is done in
    linked_some c.args.ctx.now t j b ops c.loop-op.op-index _ o c.target_of-from.result.block.0 given c.args.values.now c.loop-op.back c.add_op_edges.new.back list c.loop-op-test.true is next.here done
    (c.in_ok-add_op_edges.ensures.ok s so_far next) (c.in_ok-add_op_edges.ensures.fits s so_far next) (c.in_ok-add_op_edges.ensures.equal s so_far next))

pub returns-clause-ok : goal.returns-clause-ok
returns-clause-ok c = λ t j b given h.
    let ops = c.as_slice-op-items.result.now in
    let list = listed c.args.ctx.now t j b c.args.block ops h.at (c.as_slice-op-items.ensures.value ∙ c.in_ok-read_ops.ensures.ops) in
    linked_block t j b given c.args.values.now c.loop-op.back (linked_all c.args.ctx.now t j b ops c.loop-op.op-index given c.args.values.now c.loop-op.back list c.loop-op-test.false (c.loop-op.invariant t j b given h))

pub returns-clause-accepted : goal.returns-clause-accepted
returns-clause-accepted c = λ t j b given h.
    let ops = c.as_slice-op-items.result.now in
    let list = listed c.args.ctx.now t j b c.args.block ops h.at (c.as_slice-op-items.ensures.value ∙ c.in_ok-read_ops.ensures.ops) in
    linked_accepted t h.at.task.form j b given c.args.values.now c.loop-op.back h.at.here (linked_all c.args.ctx.now t j b ops c.loop-op.op-index given c.args.values.now c.loop-op.back list c.loop-op-test.false (c.loop-op.invariant t j b given h))
