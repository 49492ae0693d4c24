-- One edge more.
use Rattle.std.proofs.Common.{◌≡◌, ◌∙◌, ◌+◌, ◌++◌, Bool, true, List, Some, All, take, sym, ap, subst}
use Rattle.std.specs.Prelude.{MatchBool}
use Rattle.std.specs.List.{flat_map}
use Rattle.std.proofs.lemmas.List.{append-nil, take_all}
use Rattle.std.proofs.lemmas.Option.{slice_get-get_or}
use Rattle.dialect_types.specs.Trees.{type_trees}
use Rattle.dialect_core.specs.declared.ops.Value.{Value}
use Rattle.dialect_core.specs.declared.ops.Successor.{Successor}
use Rattle.to_llvm_ir.specs.Ordering.{is_seen}
use Rattle.to_llvm_ir.proofs.OpLaws.{op_parts, operands_are, successors_are}
use Rattle.to_llvm_ir.proofs.OrderingLaws.{passes, passes_more, passes_one, passes_none}
use Rattle.to_llvm_ir.proofs.order.uses_seen.Goals as goal

pub returns-then-not-are_seen : goal.returns-then-not-are_seen
returns-then-not-are_seen c = λ o is all.
    let x = c.args.ctx.now in
    let P : Value → Type 0 = λ v. is_seen c.args.seen.now v ≡ true in
    let are = operands_are (type_trees x.types) x.ops c.args.op o c.op_operands.result.now (op_parts (type_trees x.types) x.ops c.args.op o is) c.op_operands.ensures.operands in
    let late = subst (λ (b : Bool). MatchBool b (All P c.op_operands.result.now) (¬ All P c.op_operands.result.now)) c.if-not-are_seen.true c.are_seen.ensures in
    late (subst (All P) are (passes_none P o.operands (flat_map passes o.successors) all))

pub loop-edge-init : goal.loop-edge-init
loop-edge-init c = λ o is.
    let x = c.args.ctx.now in
    let P : Value → Type 0 = λ v. is_seen c.args.seen.now v ≡ true in
    let are = operands_are (type_trees x.types) x.ops c.args.op o c.op_operands.result.now (op_parts (type_trees x.types) x.ops c.args.op o is) c.op_operands.ensures.operands in
    let yes = subst (λ (b : Bool). MatchBool b (All P c.op_operands.result.now) (¬ All P c.op_operands.result.now)) c.if-not-are_seen.false c.are_seen.ensures in
    subst (All P) (sym (append-nil o.operands)) (subst (All P) (sym are) yes)

pub returns-then-not-are_seen-2 : goal.returns-then-not-are_seen-2
returns-then-not-are_seen-2 c = λ o is all.
    let x = c.args.ctx.now in
    let P : Value → Type 0 = λ v. is_seen c.args.seen.now v ≡ true in
    let ss = c.op_successors-edge-items.result.now in
    let are = successors_are (type_trees x.types) x.ops c.args.op o ss (op_parts (type_trees x.types) x.ops c.args.op o is) c.op_successors-edge-items.ensures.successors in
    let late = subst (λ (b : Bool). MatchBool b (All P c.as_slice.result.now) (¬ All P c.as_slice.result.now)) c.if-not-are_seen-2.true c.are_seen-in-loop-edge.ensures in
    late (subst (All P) (sym c.as_slice.ensures) (passes_one P o.operands ss c.loop-edge.edge-index c.edge-item.result (slice_get-get_or ss c.loop-edge.edge-index c.edge-item.result c.loop-edge-test.true ∙ ap Some (sym c.edge-item.is))
    (subst (λ (es : List Successor). All P (o.operands ++ flat_map passes es)) are all)))

pub loop-edge-preserved : goal.loop-edge-preserved
loop-edge-preserved c = λ o is.
    let x = c.args.ctx.now in
    let P : Value → Type 0 = λ v. is_seen c.args.seen.now v ≡ true in
    let ss = c.op_successors-edge-items.result.now in
    let i = c.loop-edge.edge-index in
    let are = successors_are (type_trees x.types) x.ops c.args.op o ss (op_parts (type_trees x.types) x.ops c.args.op o is) c.op_successors-edge-items.ensures.successors in
    let yes = subst (λ (b : Bool). MatchBool b (All P c.as_slice.result.now) (¬ All P c.as_slice.result.now)) c.if-not-are_seen-2.false c.are_seen-in-loop-edge.ensures in
    subst (λ (es : List Successor). All P (o.operands ++ flat_map passes (take (i + 1) es))) (sym are)
    (passes_more P o.operands ss i c.edge-item.result (slice_get-get_or ss i c.edge-item.result c.loop-edge-test.true ∙ ap Some (sym c.edge-item.is))
    (subst (λ (es : List Successor). All P (o.operands ++ flat_map passes (take i es))) are (c.loop-edge.invariant o is)) (subst (All P) c.as_slice.ensures yes))

pub returns : goal.returns
returns c = λ o is.
    let x = c.args.ctx.now in
    let P : Value → Type 0 = λ v. is_seen c.args.seen.now v ≡ true in
    let ss = c.op_successors-edge-items.result.now in
    let are = successors_are (type_trees x.types) x.ops c.args.op o ss (op_parts (type_trees x.types) x.ops c.args.op o is) c.op_successors-edge-items.ensures.successors in
    subst (λ (es : List Successor). All P (o.operands ++ flat_map passes es)) (ap (take c.loop-edge.edge-index) are ∙ take_all c.loop-edge.edge-index ss c.loop-edge-test.false ∙ sym are) (c.loop-edge.invariant o is)
