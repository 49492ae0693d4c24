-- One operation more.
use Rattle.std.proofs.Common.{◌++◌, ◌∷◌, [], Bool, List, map, take, get_or, sym, subst}
use Rattle.std.specs.Prelude.{MatchBool}
use Rattle.std.proofs.lemmas.List.{append-nil, take_all}
use Rattle.dialect_core.specs.declared.numbers.OpRef.{OpRef}
use Rattle.to_llvm_ir.specs.Exported.{result}
use Rattle.to_llvm_ir.specs.Ordering.{AreSeen, HasUsesAmong, ops_of}
use Rattle.to_llvm_ir.proofs.OrderingLaws.{uses_nil, in_order_more, seen_with, out_of_order}
use Rattle.to_llvm_ir.proofs.order.are_ops_in_order.Goals as goal

pub loop-op-init : goal.loop-op-init
loop-op-init c = λ vs seen. (uses_nil vs, subst (AreSeen c.args.seen.now) (sym (append-nil vs)) seen)

pub returns-then-not-branch : goal.returns-then-not-branch
returns-then-not-branch c = λ vs seen h.
    let inv = c.loop-op.invariant vs seen in
    let front = vs ++ map result (ops_of c.args.ctx.now (take c.loop-op.op-index c.args.ops.now)) in
    let op : OpRef = get_or c.args.ops.now c.loop-op.op-index (record { 0 = 0 }) in
    let P : Type 0 = HasUsesAmong front (ops_of c.args.ctx.now (op ∷ [])) × AreSeen c.is_op_in_order.new.seen (front ++ map result (ops_of c.args.ctx.now (op ∷ []))) in
    let Q : Type 0 = HasUsesAmong front (ops_of c.args.ctx.now (op ∷ [])) → ⊥ in
    out_of_order c.args.ctx.now c.args.ops.now c.loop-op.op-index (record { 0 = 0 }) vs c.loop-op-test.true
    (subst (λ (b : Bool). MatchBool b P Q) c.if-not-branch.true (c.in_ok-is_op_in_order.ensures front inv.1)) h

pub loop-op-preserved : goal.loop-op-preserved
loop-op-preserved c = λ vs seen.
    let inv = c.loop-op.invariant vs seen in
    let front = vs ++ map result (ops_of c.args.ctx.now (take c.loop-op.op-index c.args.ops.now)) in
    let op : OpRef = get_or c.args.ops.now c.loop-op.op-index (record { 0 = 0 }) in
    let P : Type 0 = HasUsesAmong front (ops_of c.args.ctx.now (op ∷ [])) × AreSeen c.is_op_in_order.new.seen (front ++ map result (ops_of c.args.ctx.now (op ∷ []))) in
    let Q : Type 0 = HasUsesAmong front (ops_of c.args.ctx.now (op ∷ [])) → ⊥ in
    let yes = subst (λ (b : Bool). MatchBool b P Q) c.if-not-branch.false (c.in_ok-is_op_in_order.ensures front inv.1) in (
      in_order_more c.args.ctx.now c.args.ops.now c.loop-op.op-index (record { 0 = 0 }) vs c.loop-op-test.true inv.0 yes.0,
      subst (AreSeen c.is_op_in_order.new.seen) (seen_with c.args.ctx.now c.args.ops.now c.loop-op.op-index (record { 0 = 0 }) vs c.loop-op-test.true) yes.1,
    )

pub returns : goal.returns
returns c = λ vs seen.
    let inv = c.loop-op.invariant vs seen in
    let whole = take_all c.loop-op.op-index c.args.ops.now c.loop-op-test.false in (
      subst (λ (os : List OpRef). HasUsesAmong vs (ops_of c.args.ctx.now os)) whole inv.0,
      subst (λ (os : List OpRef). AreSeen c.loop-op.seen (vs ++ map result (ops_of c.args.ctx.now os))) whole inv.1,
    )
