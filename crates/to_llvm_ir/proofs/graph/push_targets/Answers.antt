-- One edge more.
use Rattle.std.proofs.Common.{◌≡◌, ◌∙◌, ◌+◌, ◌++◌, List, take, sym, ap, subst}
use Rattle.std.specs.List.{filter_map, flat_map}
use Rattle.std.proofs.lemmas.List.{append-nil, take_all}
use Rattle.dialect_types.specs.Trees.{type_trees}
use Rattle.dialect_core.specs.declared.ops.Successor.{Successor}
use Rattle.dialect_core.specs.Data.{DialectOp}
use Rattle.to_llvm_ir.specs.Order.{block_place}
use Rattle.to_llvm_ir.proofs.OpLaws.{op_parts, successors_are}
use Rattle.to_llvm_ir.proofs.OrderingLaws.{ops_none, ops_some}
use Rattle.to_llvm_ir.proofs.GraphLaws.{place_for, leads, edges_more}
use Rattle.to_llvm_ir.proofs.graph.push_targets.Goals as goal

pub returns-then-not-is_block_op : goal.returns-then-not-is_block_op
returns-then-not-is_block_op c = λ g are.
    sym (ap (λ (os : List DialectOp). c.args.row.now.items ++ filter_map (place_for g) (flat_map leads os)) (ops_none c.args.ctx.now c.args.op (c.is_block_op.ensures.no c.if-not-is_block_op.true)) ∙ append-nil c.args.row.now.items)

pub loop-edge-init : goal.loop-edge-init
loop-edge-init c = λ g o are is. sym (append-nil _)

pub loop-edge-preserved : goal.loop-edge-preserved
loop-edge-preserved c = λ g o are is.
    let ts = type_trees c.args.ctx.now.types in
    let ss = c.op_successors-edge-items.result.now in
    let e : o.successors ≡ ss = successors_are ts c.args.ctx.now.ops c.args.op o ss (op_parts ts c.args.ctx.now.ops c.args.op o is) c.op_successors-edge-items.ensures.successors in
    let i = c.loop-edge.edge-index in
    subst (λ (xs : List Successor). c.push_place.new.row.items ≡ c.args.row.now.items ++ filter_map (place_for g) (take (i + 1) xs)) (sym e)
    (edges_more g ss i c.edge-item.result c.args.row.now.items c.loop-edge.row.items c.push_place.new.row.items c.get.result c.loop-edge-test.true
    (c.get.ensures ∙ are c.edge-item.result.block ∙ ap (λ (s : Successor). block_place g s.block.0) c.edge-item.is)
    (subst (λ (xs : List Successor). c.loop-edge.row.items ≡ c.args.row.now.items ++ filter_map (place_for g) (take i xs)) e (c.loop-edge.invariant g o are is))
    c.in_ok-push_place.ensures)

pub returns : goal.returns
returns c = λ g are.
    let ts = type_trees c.args.ctx.now.types in
    let o = c.is_block_op.ensures.yes c.if-not-is_block_op.false in
    let ss = c.op_successors-edge-items.result.now in
    let e : o.0.successors ≡ ss = successors_are ts c.args.ctx.now.ops c.args.op o.0 ss (op_parts ts c.args.ctx.now.ops c.args.op o.0 o.1) c.op_successors-edge-items.ensures.successors in
    subst (λ (xs : List Successor). c.loop-edge.row.items ≡ c.args.row.now.items ++ filter_map (place_for g) xs)
    (ap (take c.loop-edge.edge-index) e ∙ take_all c.loop-edge.edge-index ss c.loop-edge-test.false ∙ sym e ∙ sym (append-nil o.0.successors) ∙ sym (ap (flat_map leads) (ops_some c.args.ctx.now c.args.op o.0 o.1)))
    (c.loop-edge.invariant g o.0 are o.1)
