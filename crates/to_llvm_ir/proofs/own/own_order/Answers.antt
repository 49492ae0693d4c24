-- Where each value stands before its uses, the function has its own; else this was asked, and the order is that of an export.
use Rattle.std.proofs.Common.{◌∙◌, Bool, ap, subst}
use Rattle.std.specs.Prelude.{MatchBool}
use Rattle.std.specs.List.{range_with_len}
use Rattle.dialect_core.specs.ContextData.{region_at}
use Rattle.dialect_core.specs.Form.{IsInOrder}
use Rattle.dialect_core.proofs.HoldLemmas.{region_read}
use Rattle.dialect_core.proofs.FuncLemmas.{region_there}
use Rattle.to_llvm_ir.proofs.FinishLaws.{blocks_apart}
use Rattle.to_llvm_ir.proofs.GraphLaws.{counted_taken}
use Rattle.to_llvm_ir.proofs.OwnLaws.{own_in_order, some_of}
use Rattle.to_llvm_ir.proofs.own.own_order.Goals as goal

pub returns-then-branch-clause-taken : goal.returns-then-branch-clause-taken
returns-then-branch-clause-taken c = λ g is form.
    let blocks = blocks_apart c.args.ctx.now c.args.func g c.op_blocks-list.result.now (some_of g.blocks form.1.body) form.0.block_numbers is c.op_blocks-list.ensures.blocks c.op_blocks-list.ensures.within in
    let order = subst (λ (b : Bool). MatchBool b (IsInOrder g) (¬ IsInOrder g)) c.if-branch.true (c.in_ok-is_in_order.ensures g blocks) in
    counted_taken g c.in_ok-order.order.items blocks.some order (c.in_ok-order.ensures ∙ ap (range_with_len 0) blocks.count)

pub returns-then-branch-clause-own : goal.returns-then-branch-clause-own
returns-then-branch-clause-own c = λ g is form.
    let x = c.args.ctx.now in
    let list = c.op_blocks-list.result.now in
    let there = region_there x (region_at x.ops c.args.func.0) list (region_read x.ops c.args.func.0 list c.op_blocks-list.ensures.blocks) c.op_blocks-list.ensures.within in
    let blocks = blocks_apart c.args.ctx.now c.args.func g c.op_blocks-list.result.now (some_of g.blocks form.1.body) form.0.block_numbers is c.op_blocks-list.ensures.blocks c.op_blocks-list.ensures.within in
    let order = subst (λ (b : Bool). MatchBool b (IsInOrder g) (¬ IsInOrder g)) c.if-branch.true (c.in_ok-is_in_order.ensures g blocks) in
    own_in_order x c.args.func g is there order form.0

pub export_order-requires-clause-blocks : goal.export_order-requires-clause-blocks
export_order-requires-clause-blocks c =
    let f = c.requires.form in
    (f.0, blocks_apart c.args.ctx.now c.args.func f.0 c.op_blocks-list.result.now (some_of f.0.blocks f.2.1.body) f.2.0.block_numbers f.1 c.op_blocks-list.ensures.blocks c.op_blocks-list.ensures.within)

pub returns-clause-taken : goal.returns-clause-taken
returns-clause-taken c = λ g is form. c.in_ok-order-2.ensures g (blocks_apart c.args.ctx.now c.args.func g c.op_blocks-list.result.now (some_of g.blocks form.1.body) form.0.block_numbers is c.op_blocks-list.ensures.blocks c.op_blocks-list.ensures.within)
