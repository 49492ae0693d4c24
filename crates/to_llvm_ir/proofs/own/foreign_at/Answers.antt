-- One edge more.
use Rattle.std.proofs.Common.{◌∙◌, ◌+◌, ◌++◌, List, Some, All, take, sym, ap, subst}
use Rattle.std.specs.List.{flat_map}
use Rattle.std.proofs.lemmas.List.{append-nil, take_all}
use Rattle.std.proofs.lemmas.Option.{slice_get-get_or}
use Rattle.dialect_types.specs.Trees.{type_trees}
use Rattle.dialect_core.specs.declared.ops.Value.{Value}
use Rattle.dialect_core.specs.declared.ops.Successor.{Successor}
use Rattle.to_llvm_ir.specs.Own.{IsHeldBy}
use Rattle.to_llvm_ir.proofs.OpLaws.{op_parts, operands_are, successors_are}
use Rattle.to_llvm_ir.proofs.OrderingLaws.{passes, passes_more}
use Rattle.to_llvm_ir.proofs.OwnLaws.{none_among, operand_found, passed_found}
use Rattle.to_llvm_ir.proofs.own.foreign_at.Goals as goal

pub returns-in-Some-clause-found : goal.returns-in-Some-clause-found
returns-in-Some-clause-found c =
    let x = c.args.ctx.now in
    let o = c.is_block_op.ensures.yes c.if-not-is_block_op.false in
    let are = operands_are (type_trees x.types) x.ops c.args.op o.0 c.op_operands.result.now (op_parts (type_trees x.types) x.ops c.args.op o.0 o.1) c.op_operands.ensures.operands in
    let found = operand_found x c.args.func o.0 c.op_operands.result.now c.foreign_among.result c.in-Some.value are c.in-Some.is c.foreign_among.ensures.found in
    record { op = o.0; is = o.1; used = found.0; foreign = found.1 }

pub loop-edge-init : goal.loop-edge-init
loop-edge-init c = λ o is.
    let x = c.args.ctx.now in
    let P : Value → Type 0 = IsHeldBy x c.args.func in
    let are = operands_are (type_trees x.types) x.ops c.args.op o c.op_operands.result.now (op_parts (type_trees x.types) x.ops c.args.op o is) c.op_operands.ensures.operands in
    subst (All P) (sym (append-nil o.operands)) (subst (All P) (sym are) (none_among x c.args.func c.op_operands.result.now c.foreign_among.result c.in_default.is c.foreign_among.ensures.found))

pub returns-in-Some-foreign_among-clause-found : goal.returns-in-Some-foreign_among-clause-found
returns-in-Some-foreign_among-clause-found c =
    let x = c.args.ctx.now in
    let o = c.is_block_op.ensures.yes c.if-not-is_block_op.false in
    let ss = c.op_successors-edge-items.result.now in
    let i = c.loop-edge.edge-index in
    let are = successors_are (type_trees x.types) x.ops c.args.op o.0 ss (op_parts (type_trees x.types) x.ops c.args.op o.0 o.1) c.op_successors-edge-items.ensures.successors in
    let found = passed_found x c.args.func o.0 ss i c.edge-item.result c.as_slice.result.now c.foreign_among-in-loop-edge.result c.in-Some-foreign_among.value are
    (slice_get-get_or ss i c.edge-item.result c.loop-edge-test.true ∙ ap Some (sym c.edge-item.is)) c.as_slice.ensures c.in-Some-foreign_among.is c.foreign_among-in-loop-edge.ensures.found in
    record { op = o.0; is = o.1; used = found.0; foreign = found.1 }

pub loop-edge-preserved : goal.loop-edge-preserved
loop-edge-preserved c = λ o is.
    let x = c.args.ctx.now in
    let P : Value → Type 0 = IsHeldBy x c.args.func in
    let ss = c.op_successors-edge-items.result.now in
    let i = c.loop-edge.edge-index in
    let are = successors_are (type_trees x.types) x.ops c.args.op o ss (op_parts (type_trees x.types) x.ops c.args.op o is) c.op_successors-edge-items.ensures.successors in
    let held = none_among x c.args.func c.as_slice.result.now c.foreign_among-in-loop-edge.result c.in_default-foreign_among.is c.foreign_among-in-loop-edge.ensures.found in
    subst (λ (es : List Successor). All P (o.operands ++ flat_map passes (take (i + 1) es))) (sym are)
    (passes_more P o.operands ss i c.edge-item.result (slice_get-get_or ss i c.edge-item.result c.loop-edge-test.true ∙ ap Some (sym c.edge-item.is))
    (subst (λ (es : List Successor). All P (o.operands ++ flat_map passes (take i es))) are (c.loop-edge.invariant o is)) (subst (All P) c.as_slice.ensures held))

pub returns-clause-found : goal.returns-clause-found
returns-clause-found c = λ o is.
    let x = c.args.ctx.now in
    let P : Value → Type 0 = IsHeldBy x c.args.func in
    let ss = c.op_successors-edge-items.result.now in
    let are = successors_are (type_trees x.types) x.ops c.args.op o ss (op_parts (type_trees x.types) x.ops c.args.op o is) c.op_successors-edge-items.ensures.successors in
    subst (λ (es : List Successor). All P (o.operands ++ flat_map passes es)) (ap (take c.loop-edge.edge-index) are ∙ take_all c.loop-edge.edge-index ss c.loop-edge-test.false ∙ sym are) (c.loop-edge.invariant o is)
