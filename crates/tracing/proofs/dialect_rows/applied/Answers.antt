-- What `dialect_rows::applied` owes besides what the check finds.
use Rattle.std.proofs.Common.{subst, All}
use Rattle.dialect_core.specs.Data.{type_in}
use Rattle.tracing.specs.DialectBodies.{IsUsed}
use Rattle.tracing.proofs.DialectLaws.{op_within, operands_kept, used_all, first_class_result, applied_is}
use Rattle.tracing.proofs.GrowLaws.{all_stay}
use Rattle.tracing.proofs.TablesLaws.{grown_then}
use Rattle.tracing.proofs.dialect_rows.applied.Goals as goal

pub op_operands-values-requires : goal.op_operands-values-requires
op_operands-values-requires c = op_within c.args.ctx.now c.args.op c.requires.here.1 c.requires.here.2.here

pub operand_types-requires-clause-typed : goal.operand_types-requires-clause-typed
operand_types-requires-clause-typed c = c.requires.here.0.typed

pub operand_types-requires-clause-used : goal.operand_types-requires-clause-used
operand_types-requires-clause-used c =
    let x = c.args.ctx.now in
    let h = c.requires.here.0 in
    let o = c.requires.here.1 in
    let at = c.requires.here.2 in
    subst (All (IsUsed x)) (operands_kept x c.args.op o _ at.here c.op_operands-values.ensures.operands) (used_all x h.function o.operands o.result o.successors o.kind at.form)

pub result_type-requires-clause-typed : goal.result_type-requires-clause-typed
result_type-requires-clause-typed c = c.requires.here.0.typed

pub result_type-requires-clause-here : goal.result_type-requires-clause-here
result_type-requires-clause-here c =
    let h = c.requires.here.0 in
    let o = c.requires.here.1 in
    let at = c.requires.here.2 in
    (o, at.here, first_class_result c.args.ctx.now h.function o.operands o.result o.successors o.kind at.form)

pub returns-clause-is : goal.returns-clause-is
returns-clause-is c = λ setting h o at.
    let x = c.args.ctx.now in
    let operands = operands_kept x c.args.op o c.op_operands-values.result.now at.here c.op_operands-values.ensures.operands in
    let stand = all_stay _ _ c.in_ok-result_type.ensures.grown.kept.0 _ _ c.in_ok-operand_types.ensures.stand in
    applied_is _ setting (type_in x) o c.args.row (record { result = c.in_ok-result_type.result_type; operands = c.in_ok-operand_types.operand_types }) c.in_ok-operands.operands c.op_operands-values.result.now operands
    (c.in_ok-result_type.ensures.stands o at.here) stand (c.in_ok-operands.ensures _)

pub returns-clause-grown : goal.returns-clause-grown
returns-clause-grown c = grown_then _ _ _ _ c.in_ok-operand_types.ensures.grown c.in_ok-result_type.ensures.grown
