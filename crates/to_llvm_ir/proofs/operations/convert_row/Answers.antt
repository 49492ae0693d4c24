-- A type may be new, which leaves the spot as it was; what was found then makes the row.
use Rattle.std.proofs.Common.{refl, sym, subst, List}
use Rattle.kinds.specs.declared.rules.Rule.{Rule}
use Rattle.dialect_types.specs.Trees.{type_trees}
use Rattle.dialect_core.specs.declared.ops.Value.{Value}
use Rattle.dialect_core.specs.declared.ops.Successor.{Successor}
use Rattle.dialect_core.specs.declared.ops.OpKind.TheVariants as K
use Rattle.dialect_core.specs.Data.{RowOp}
use Rattle.meaning.specs.Pairs.{Matched}
use Rattle.to_llvm_ir.specs.Causes.{IsFuncCause}
use Rattle.to_llvm_ir.specs.States.{AreUses, IsLead, IsWritten}
use Rattle.to_llvm_ir.proofs.ResultLaws.{passed}
use Rattle.to_llvm_ir.proofs.OpLaws.{spot_kind, spot_parts, operands_are, successors_are}
use Rattle.to_llvm_ir.proofs.KnownLaws.{next_typed}
use Rattle.to_llvm_ir.proofs.InstLaws.{row_made}
use Rattle.to_llvm_ir.proofs.operations.convert_row.Goals as goal

pub written_type-requires : goal.written_type-requires
written_type-requires c = record { typed = c.requires.typed; within = c.requires.within; spot = (c.requires.spot.0, c.requires.spot.1.spot); sound = c.requires.spot.1.state.sound }

pub returns-clause-next : goal.returns-clause-next
returns-clause-next c = λ s next.
    let type = c.in_ok-written.ensures in
    next_typed c.args.ctx.now c.args.op s c.args.values.now c.args.back.now c.written_type.new.back next type.grows type.rest type.«data» type.sound

pub returns-in_err-operands-clause-cause : goal.returns-in_err-operands-clause-cause
returns-in_err-operands-clause-cause c = λ s next mapped.
    let type = c.in_ok-written.ensures in
    let now = next_typed c.args.ctx.now c.args.op s c.args.values.now c.args.back.now c.written_type.new.back next type.grows type.rest type.«data» type.sound in
    let are = operands_are (type_trees c.args.ctx.now.types) c.args.ctx.now.ops c.args.op s.op _ (spot_parts c.args.ctx.now c.args.op s next.spot) c.op_operands.ensures.operands in
    passed c.from_residual-in_err-operands.result c.in_err-operands.field-0.0 (IsFuncCause c.args.ctx.now s.task.source) c.from_residual-in_err-operands.ensures.1 (c.in_err-operands.ensures.cause s c.args.op c.written_type.new.back now are)

pub returns-in_err-targets-clause-cause : goal.returns-in_err-targets-clause-cause
returns-in_err-targets-clause-cause c = λ s next mapped.
    let type = c.in_ok-written.ensures in
    let now = next_typed c.args.ctx.now c.args.op s c.args.values.now c.args.back.now c.written_type.new.back next type.grows type.rest type.«data» type.sound in
    let are = successors_are (type_trees c.args.ctx.now.types) c.args.ctx.now.ops c.args.op s.op _ (spot_parts c.args.ctx.now c.args.op s next.spot) c.op_successors.ensures.successors in
    passed c.from_residual-in_err-targets.result c.in_err-targets.field-0.0 (IsFuncCause c.args.ctx.now s.task.source) c.from_residual-in_err-targets.ensures.1 (c.in_err-targets.ensures.cause s c.args.op c.written_type.new.back now mapped are)

pub returns-clause-ok : goal.returns-clause-ok
returns-clause-ok c = λ s next mapped.
    let type = c.in_ok-written.ensures in
    let m = c.written_type.new.back in
    let now = next_typed c.args.ctx.now c.args.op s c.args.values.now c.args.back.now m next type.grows type.rest type.«data» type.sound in
    let kind = spot_kind c.args.ctx.now c.args.op s (K.Row c.args.held) (RowOp c.args.held) next.spot c.requires.kind refl in
    let parts = spot_parts c.args.ctx.now c.args.op s next.spot in
    let vs = operands_are (type_trees c.args.ctx.now.types) c.args.ctx.now.ops c.args.op s.op _ parts c.op_operands.ensures.operands in
    let ss = successors_are (type_trees c.args.ctx.now.types) c.args.ctx.now.ops c.args.op s.op _ parts c.op_successors.ensures.successors in
    row_made s m type.sound _ kind.0 kind.1
    (subst (λ (us : List Value). AreUses s m us c.in_ok-operands.operands) (sym vs) (c.in_ok-operands.ensures.ok s c.args.op m now vs))
    (subst (λ (es : List Successor). Matched (IsLead s m) es c.in_ok-targets.targets) (sym ss) (c.in_ok-targets.ensures.ok s c.args.op m now mapped ss))
    (subst (λ (r : Rule). IsWritten m r.gives s.op.result c.in_ok-written.written) c.rule.ensures (type.written s next.spot))
