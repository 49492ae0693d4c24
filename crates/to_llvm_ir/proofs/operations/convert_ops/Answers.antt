-- One operation more, or what is none of the block.
use Rattle.std.proofs.Common.{◌+◌, get_or}
use Rattle.std.proofs.lemmas.Option.{slice_get_within}
use Rattle.dialect_types.specs.Trees.{type_trees}
use Rattle.dialect_core.specs.Data.{op_at}
use Rattle.to_llvm_ir.specs.Causes.{IsFuncCause}
use Rattle.to_llvm_ir.specs.States.{AreDone}
use Rattle.to_llvm_ir.proofs.ListLaws.{by_option}
use Rattle.to_llvm_ir.proofs.ResultLaws.{passed}
use Rattle.to_llvm_ir.proofs.OpsLaws.{spot_of, count_to, next_spot, done_some, done_none, done_all, done_at_start}
use Rattle.to_llvm_ir.proofs.operations.convert_ops.Goals as goal

pub loop-op-init : goal.loop-op-init
loop-op-init c = λ t j b begun. done_at_start c.args.ctx.now t j b c.args.ops.now c.args.blocks.now c.args.block c.args.values.now c.args.back.now begun

pub convert_op-requires-clause-spot : goal.convert_op-requires-clause-spot
convert_op-requires-clause-spot c = λ o is.
    let t = c.requires.begun.0 in
    let j = c.requires.begun.1 in
    let b = c.requires.begun.2 in
    let begun = c.requires.begun.3 in
    let spot = next_spot c.args.ctx.now t j b c.args.ops.now c.loop-op.op-index _ o begun.listed c.loop-op-test.true is in
    (spot_of c.args.ctx.now c.args.ops.now c.loop-op.op-index t j b o, record { spot = spot; state = (c.loop-op.invariant t j b begun).state }, begun.mapped, begun.here)

pub returns-in_err-convert_op-clause-cause : goal.returns-in_err-convert_op-clause-cause
returns-in_err-convert_op-clause-cause c = λ t j b begun.
    passed c.from_residual.result c.in_err-convert_op.field-0.0 (IsFuncCause c.args.ctx.now t.source) c.from_residual.ensures.1
    (by_option (IsFuncCause c.args.ctx.now t.source c.in_err-convert_op.field-0.0) (op_at (type_trees c.args.ctx.now.types) c.args.ctx.now.ops (get_or c.args.ops.now c.loop-op.op-index _))
    (λ is. absurd (let e = (c.in_err-convert_op.ensures.skipped is).0 in cc))
    (λ o is.
    let spot = next_spot c.args.ctx.now t j b c.args.ops.now c.loop-op.op-index _ o begun.listed c.loop-op-test.true is in
    c.in_err-convert_op.ensures.cause (spot_of c.args.ctx.now c.args.ops.now c.loop-op.op-index t j b o) (record { spot = spot; state = (c.loop-op.invariant t j b begun).state }) begun.mapped))

pub loop-op-preserved : goal.loop-op-preserved
loop-op-preserved c = λ t j b begun.
    let done = c.loop-op.invariant t j b begun in
    by_option (AreDone t j b (count_to c.args.ctx.now c.args.ops.now (c.loop-op.op-index + 1)) c.convert_op.new.values c.convert_op.new.back) (op_at (type_trees c.args.ctx.now.types) c.args.ctx.now.ops (get_or c.args.ops.now c.loop-op.op-index _))
    (λ is. let same = c.in_ok-convert_op.ensures.skipped is in done_none c.args.ctx.now t j b c.args.ops.now c.loop-op.op-index _ c.loop-op.values c.convert_op.new.values c.loop-op.back c.convert_op.new.back c.loop-op-test.true is same.1 same.2 done)
    (λ o is.
    let spot = next_spot c.args.ctx.now t j b c.args.ops.now c.loop-op.op-index _ o begun.listed c.loop-op-test.true is in
    let s = spot_of c.args.ctx.now c.args.ops.now c.loop-op.op-index t j b o in
    done_some c.args.ctx.now t j b c.args.ops.now c.loop-op.op-index _ o c.loop-op.values c.convert_op.new.values c.loop-op.back c.convert_op.new.back begun.listed c.loop-op-test.true is done
    (c.in_ok-convert_op.ensures.ok s (record { spot = spot; state = done.state }) begun.mapped begun.here) (c.in_ok-convert_op.ensures.accepted s (record { spot = spot; state = done.state }) begun.mapped))

pub returns-clause-ok : goal.returns-clause-ok
returns-clause-ok c = λ t j b begun. (done_all c.args.ctx.now t j b c.args.ops.now c.loop-op.op-index c.loop-op.values c.loop-op.back begun.listed c.loop-op-test.false (c.loop-op.invariant t j b begun)).state

pub returns-clause-accepted : goal.returns-clause-accepted
returns-clause-accepted c = λ t j b begun i o at.
    (done_all c.args.ctx.now t j b c.args.ops.now c.loop-op.op-index c.loop-op.values c.loop-op.back begun.listed c.loop-op-test.false (c.loop-op.invariant t j b begun)).accepted i o (slice_get_within b.ops i o at) at
