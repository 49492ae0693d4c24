-- Where no use is of another function's value, the function has its own; else the use is a cause.
use Rattle.std.proofs.Common.{◌≡◌, ◌∙◌, List, Some, All, slice_get, ap, sym, subst}
use Rattle.dialect_types.specs.Trees.{type_trees}
use Rattle.dialect_core.specs.declared.numbers.OpRef.{OpRef}
use Rattle.dialect_core.specs.ContextData.{region_at}
use Rattle.dialect_core.specs.Data.{Func, func_in}
use Rattle.dialect_core.specs.WellFormed.{IsOpenForm}
use Rattle.dialect_core.proofs.HoldLemmas.{region_read}
use Rattle.dialect_core.proofs.FuncLemmas.{region_there}
use Rattle.to_llvm_ir.specs.Own.{IsForeignIn, UsesHeld}
use Rattle.to_llvm_ir.specs.Ordering.{AreBlocksOf}
use Rattle.to_llvm_ir.proofs.FinishLaws.{blocks_apart}
use Rattle.to_llvm_ir.proofs.OwnLaws.{own_of, foreign_cause, some_of}
use Rattle.to_llvm_ir.proofs.own.check_own.Goals as goal

pub returns-in_default-clause-own : goal.returns-in_default-clause-own
returns-in_default-clause-own c = λ g is form.
    let x = c.args.ctx.now in
    let list = c.op_blocks-list.result.now in
    let there = region_there x (region_at x.ops c.args.func.0) list (region_read x.ops c.args.func.0 list c.op_blocks-list.ensures.blocks) c.op_blocks-list.ensures.within in
    let uses = subst (IsForeignIn x c.args.func c.as_slice.result.now) c.in_default.is c.foreign_in.ensures.found in
    own_of x c.args.func g is there (subst (All (UsesHeld x c.args.func)) (c.as_slice.ensures.value ∙ c.in_ok-ops.ensures.ops) uses) form.0

-- the blocks of the function
blocks_are : (c : goal.After-export_order-arg-1) (g : Func) → func_in (type_trees c.args.ctx.now.types) c.args.ctx.now c.args.func ≡ Some g → IsOpenForm c.args.ctx.now g → AreBlocksOf c.args.ctx.now g c.op_blocks-list.result.now
blocks_are c g is form = blocks_apart c.args.ctx.now c.args.func g c.op_blocks-list.result.now (some_of g.blocks form.1.body) form.0.block_numbers is c.op_blocks-list.ensures.blocks c.op_blocks-list.ensures.within

pub export_order-requires-clause-blocks : goal.export_order-requires-clause-blocks
export_order-requires-clause-blocks c = let f = c.requires.form in (f.0, blocks_are c f.0 f.1 f.2)

pub returns-clause-cause : goal.returns-clause-cause
returns-clause-cause c = λ g is form.
    let x = c.args.ctx.now in
    let list = c.op_blocks-list.result.now in
    let there = region_there x (region_at x.ops c.args.func.0) list (region_read x.ops c.args.func.0 list c.op_blocks-list.ensures.blocks) c.op_blocks-list.ensures.within in
    let found : IsForeignIn x c.args.func c.as_slice.result.now (Some c.in-Some.value) = subst (IsForeignIn x c.args.func c.as_slice.result.now) c.in-Some.is c.foreign_in.ensures.found in
    let blocks = blocks_apart x c.args.func g list (some_of g.blocks form.1.body) form.0.block_numbers is c.op_blocks-list.ensures.blocks c.op_blocks-list.ensures.within in
    foreign_cause x c.args.func g is there c.in_ok-export_order.field-0.items (c.in_ok-export_order.ensures g blocks) found.0 found.1 c.in-Some.value c.in_ok-given_name.field-0
    (ap (λ (os : List OpRef). slice_get os found.0) (sym (c.as_slice.ensures.value ∙ c.in_ok-ops.ensures.ops)) ∙ found.2) found.3 c.in_ok-given_name.ensures
