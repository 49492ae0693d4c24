-- The target is a block of the function, with as many arguments.
use Rattle.std.proofs.Common.{List, length, ap, arith}
use Rattle.dialect_core.specs.declared.ops.Value.{Value}
use Rattle.dialect_core.specs.Form.{FitsTarget}
use Rattle.to_llvm_ir.specs.Causes.{IsFuncCause}
use Rattle.to_llvm_ir.specs.States.{Spot, IsSpot, AreAllMapped}
use Rattle.to_llvm_ir.proofs.ResultLaws.{passed}
use Rattle.to_llvm_ir.proofs.PassLaws.{found_fits, found_differs, edge_next}
use Rattle.to_llvm_ir.proofs.edges.add_edge.Goals as goal

pub returns-in_err-find_target-clause-cause : goal.returns-in_err-find_target-clause-cause
returns-in_err-find_target-clause-cause c = λ s op l given h.
    passed c.from_residual.result c.in_err-find_target.field-0.0 (IsFuncCause c.args.ctx.now s.task.source) c.from_residual.ensures.1 (c.in_err-find_target.ensures.cause s op l h.spot h.mapped h.at)

pub returns-then-block_args-as_slice-clause-cause : goal.returns-then-block_args-as_slice-clause-cause
returns-then-block_args-as_slice-clause-cause c = λ s op l given h.
    let differs = c.if-block_args-as_slice.true in
    let args = ap (λ (vs : List Value). length vs) c.as_slice.ensures in
    found_differs c.args.ctx.now s op l c.args.edge.now c.args.blocks.now c.in_ok-find_target.field-0 c.block_args.result.now h.spot h.mapped h.at c.in_ok-find_target.ensures.ok c.block_args.ensures (λ e. omega (arith, differs, e, args))

fits : (c : goal.After-add_entries-arg-1) (s : Spot) (op : _) → IsSpot c.args.ctx.now op s → AreAllMapped s.task c.args.blocks.now → FitsTarget s.task.source c.args.edge.now
fits c s op spot mapped =
    let same = c.if-block_args-as_slice.false in
    let args = ap (λ (vs : List Value). length vs) c.as_slice.ensures in
    found_fits c.args.ctx.now s op c.args.edge.now c.args.blocks.now c.in_ok-find_target.field-0 c.block_args.result.now spot mapped c.in_ok-find_target.ensures.ok c.block_args.ensures (omega (arith, same, args))

pub add_entries-requires : goal.add_entries-requires
add_entries-requires c =
    let r = c.requires.next in
    (r.0.task, r.3, edge_next c.args.ctx.now r.1 r.0 r.2 c.args.edge.now c.args.from c.args.blocks.now r.3 c.args.values.now c.args.back.now r.4 (fits c r.0 r.1 r.4.spot r.4.mapped))

pub returns-clause-ok : goal.returns-clause-ok
returns-clause-ok c = λ s op l given h.
    c.in_ok-add_entries.ensures s.task given (edge_next c.args.ctx.now op s l c.args.edge.now c.args.from c.args.blocks.now given c.args.values.now c.args.back.now h (fits c.before.before.before s op h.spot h.mapped))

pub returns-clause-fits : goal.returns-clause-fits
returns-clause-fits c = λ s op l given h. fits c.before.before.before s op h.spot h.mapped
