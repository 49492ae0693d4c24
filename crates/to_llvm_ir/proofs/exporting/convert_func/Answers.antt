-- First the blocks, then what they hold, then the edges between them.
use Rattle.std.proofs.Common.{◌≡◌, ◌<◌, ◌∙◌, ◌^◌, Some, length, sym, ap, subst, arith}
use Rattle.std.specs.Prelude.{IfErr}
use Rattle.support.proofs.ResultLaws.{both}
use Rattle.llvm_core.specs.Data as L
use Rattle.dialect_types.specs.Trees.{structs_of, type_trees}
use Rattle.dialect_core.specs.Data.{Func, func_in}
use Rattle.dialect_core.specs.Form.{IsFormFunc}
use Rattle.to_llvm_ir.specs.Causes.{IsFuncCause}
use Rattle.to_llvm_ir.specs.Bodies.{IsBlocksBegun}
use Rattle.to_llvm_ir.specs.Functions.{AddsFunction}
use Rattle.to_llvm_ir.specs.Opening.{AreBlocks}
use Rattle.to_llvm_ir.specs.States.{Task, IsTask}
use Rattle.to_llvm_ir.proofs.ResultLaws.{passed}
use Rattle.to_llvm_ir.proofs.FinishLaws.{are_blocks, count_is, accepted, finished}
use Rattle.to_llvm_ir.proofs.exporting.convert_func.Goals as goal

-- the blocks are those of the function that was started
blocks_are : (c : goal.After-append_blocks-arg-1) (t : Task) → func_in (type_trees c.args.ctx.now.types) c.args.ctx.now c.args.op ≡ Some t.source → IsTask c.args.ctx.now t → AreBlocks c.args.ctx.now t c.op_blocks-list.result.now
blocks_are c t is task = are_blocks c.args.ctx.now c.args.op t c.op_blocks-list.result.now task is c.op_blocks-list.ensures.blocks c.op_blocks-list.ensures.within

held_is : (c : goal.After-append_blocks-arg-1) (t : Task) (g : Func) → t.source ≡ g → func_in (type_trees c.args.ctx.now.types) c.args.ctx.now c.args.op ≡ Some g → func_in (type_trees c.args.ctx.now.types) c.args.ctx.now c.args.op ≡ Some t.source
held_is c t g same is = is ∙ ap Some (sym same)

pub append_blocks-requires-clause-there : goal.append_blocks-requires-clause-there
append_blocks-requires-clause-there c =
    let f = c.requires.form in
    let taken = c.requires.taken f.0 f.1 in
    let s = c.in_ok-f.ensures f.0 f.1 f.2 c.args.order.now taken in
    (s.0, s.1, blocks_are c s.0 (held_is c s.0 f.0 s.2 f.1) s.4, s.5)

pub convert_blocks-requires-clause-begun : goal.convert_blocks-requires-clause-begun
convert_blocks-requires-clause-begun c =
    let f = c.requires.form in
    let taken = c.requires.taken f.0 f.1 in
    let s = c.in_ok-f.ensures f.0 f.1 f.2 c.args.order.now taken in
    let are = are_blocks c.args.ctx.now c.args.op s.0 c.op_blocks-list.result.now s.4 (f.1 ∙ ap Some (sym s.2)) c.op_blocks-list.ensures.blocks c.op_blocks-list.ensures.within in
    (s.0, record { are = are; order_is = sym s.7; type = s.1; opening = c.in_ok-cctx.ensures.ok s.0 s.1 are s.5 })

pub returns-in_err-cctx-2-clause-cause : goal.returns-in_err-cctx-2-clause-cause
returns-in_err-cctx-2-clause-cause c = λ g is form.
    let taken = c.requires.taken g is in
    let s = c.in_ok-f.ensures g is form c.args.order.now taken in
    let are = are_blocks c.args.ctx.now c.args.op s.0 c.op_blocks-list.result.now s.4 (is ∙ ap Some (sym s.2)) c.op_blocks-list.ensures.blocks c.op_blocks-list.ensures.within in
    passed c.from_residual-in_err-cctx-2.result c.in_err-cctx-2.field-0.0 (IsFuncCause c.args.ctx.now g) c.from_residual-in_err-cctx-2.ensures.1
    (subst (λ (x : Func). IsFuncCause c.args.ctx.now x c.in_err-cctx-2.field-0.0) s.2 (c.in_err-cctx-2.ensures.cause s.0 (record { are = are; order_is = sym s.7; type = s.1; opening = c.in_ok-cctx.ensures.ok s.0 s.1 are s.5 })))

pub add_edges-requires-clause-begun : goal.add_edges-requires-clause-begun
add_edges-requires-clause-begun c =
    let f = c.requires.form in
    let taken = c.requires.taken f.0 f.1 in
    let s = c.in_ok-f.ensures f.0 f.1 f.2 c.args.order.now taken in
    let are = are_blocks c.args.ctx.now c.args.op s.0 c.op_blocks-list.result.now s.4 (f.1 ∙ ap Some (sym s.2)) c.op_blocks-list.ensures.blocks c.op_blocks-list.ensures.within in
    let opening = c.in_ok-cctx.ensures.ok s.0 s.1 are s.5 in
    (s.0, are, sym s.7, opening.mapped, c.in_ok-cctx-2.ensures.ok s.0 (record { are = are; order_is = sym s.7; type = s.1; opening = opening }))

pub returns-clause-ok : goal.returns-clause-ok
returns-clause-ok c = λ g is form.
    let taken = c.requires.taken g is in
    let s = c.in_ok-f.ensures g is form c.args.order.now taken in
    let t = s.0 in
    let old = c.args.cctx.now.module in
    let held = is ∙ ap Some (sym s.2) in
    let form_t : IsFormFunc t.source = subst IsFormFunc (sym s.2) form.0 in
    let are = are_blocks c.args.ctx.now c.args.op t c.op_blocks-list.result.now s.4 held c.op_blocks-list.ensures.blocks c.op_blocks-list.ensures.within in
    let count = count_is c.args.ctx.now c.args.op t.source c.op_blocks-list.result.now held c.op_blocks-list.ensures.blocks c.op_blocks-list.ensures.within in
    let opening = c.in_ok-cctx.ensures.ok t s.1 are s.5 in
    let begun : IsBlocksBegun c.args.ctx.now t c.op_blocks-list.result.now c.args.order.now c.in_ok-f.f c.in_ok-cctx.field-0 c.append_blocks.new.back = record { are = are; order_is = sym s.7; type = s.1; opening = opening } in
    let state = c.in_ok-cctx-2.ensures.ok t begun in
    let few : length t.source.blocks < 2 ^ 30 = let f = c.in_ok-check_few.ensures in omega (arith, f, count) in
    let functions : length old.functions < 2 ^ 30 = let f = c.in_ok-check_few-2.ensures in let l = c.functions.ensures.len in omega (arith, f, l) in
    both c.add_edges.result (c.add_edges.ensures.ok t are (sym s.7) opening.mapped state) (c.add_edges.ensures.accepted t are (sym s.7) opening.mapped state)
    (λ _ done edges.
    subst (λ (x : Func). AddsFunction x (L.data_of old) (L.data_of c.add_edges.new.back)) s.2
    (finished t form_t (structs_of c.args.ctx.now.types, s.4.ruled) s.4.order old c.in_ok-cctx-2.field-0 c.add_edges.new.back s.3 functions
    (accepted t.numbers.order t.source few (c.in_ok-cctx.ensures.labelled t are) (c.in_ok-cctx-2.ensures.accepted t begun) edges)
    done))

pub returns-clause-cause : goal.returns-clause-cause
returns-clause-cause c = λ g is form.
    let taken = c.requires.taken g is in
    let s = c.in_ok-f.ensures g is form c.args.order.now taken in
    let are = are_blocks c.args.ctx.now c.args.op s.0 c.op_blocks-list.result.now s.4 (is ∙ ap Some (sym s.2)) c.op_blocks-list.ensures.blocks c.op_blocks-list.ensures.within in
    let opening = c.in_ok-cctx.ensures.ok s.0 s.1 are s.5 in
    let state = c.in_ok-cctx-2.ensures.ok s.0 (record { are = are; order_is = sym s.7; type = s.1; opening = opening }) in
    subst (λ (x : Func). IfErr c.add_edges.result (IsFuncCause c.args.ctx.now x)) s.2 (c.add_edges.ensures.cause s.0 are (sym s.7) opening.mapped state)

pub start_func-requires-clause-form : goal.start_func-requires-clause-form
start_func-requires-clause-form c = c.requires.form

pub append_blocks-requires-clause-within : goal.append_blocks-requires-clause-within
append_blocks-requires-clause-within c = c.op_blocks-list.ensures.within

pub convert_blocks-requires-clause-within : goal.convert_blocks-requires-clause-within
convert_blocks-requires-clause-within c = c.op_blocks-list.ensures.within

pub add_edges-requires-clause-within : goal.add_edges-requires-clause-within
add_edges-requires-clause-within c = c.op_blocks-list.ensures.within
