-- The constant is what the operation holds, of the type of its result.
use Rattle.std.proofs.Common.{◌≡◌, None, ap, ◌∙◌}
use Rattle.support.proofs.ResultLaws.{both}
use Rattle.kinds.proofs.HeldLaws.{held_result_if}
use Rattle.llvm_core.specs.Data.{ModuleData}
use Rattle.dialect_types.specs.Trees.{type_at, type_trees}
use Rattle.to_llvm_ir.proofs.ListLaws.{by_option}
use Rattle.to_llvm_ir.proofs.OpLaws.{result_there}
use Rattle.to_llvm_ir.proofs.ConstOpLaws.{constant_parts, constant_some, constant_source, constant_for, spot_structs}
use Rattle.to_llvm_ir.proofs.StepLaws.{constant_done}
use Rattle.to_llvm_ir.proofs.operations.convert_constant.Goals as goal

pub unreachable-requires : goal.unreachable-requires
unreachable-requires c = constant_some c.args.ctx.now c.args.op c.requires.spot.0 c.args.value.now c.result_type.result c.requires.spot.1.spot c.requires.kind c.result_type.ensures
    (by_option (c.result_type.result ≡ None) c.result_type.result (λ e. e) (λ x is. absurd (c.in_default.not-Some x is)))

pub value_type-requires-clause-within : goal.value_type-requires-clause-within
value_type-requires-clause-within c = result_there c.args.ctx.now c.args.op c.result_type.result c.in-Some.ty c.requires.typed c.result_type.ensures c.in-Some.is

pub value_type-requires-clause-held : goal.value_type-requires-clause-held
value_type-requires-clause-held c =
    held_result_if _ (constant_parts c.args.ctx.now c.args.op c.requires.spot.0 c.args.value.now c.result_type.result c.in-Some.ty c.requires.spot.1.spot c.requires.kind c.result_type.ensures c.in-Some.is).held

pub const_for-requires-clause-source : goal.const_for-requires-clause-source
const_for-requires-clause-source c =
    let x = c.args.ctx.now in
    let s = c.requires.spot.0 in
    let next = c.requires.spot.1 in
    let type = c.in_ok-ty.ensures in
    let parts = constant_parts x c.args.op s c.args.value.now c.result_type.result c.in-Some.ty next.spot c.requires.kind c.result_type.ensures c.in-Some.is in
    let structs = ap (λ (d : ModuleData). d.structs) type.data ∙ spot_structs x c.args.op s c.args.values.now c.args.back.now next in
    (type_trees x.types, constant_source x c.value_type.new.back s.op c.args.value.now (type_at (type_trees x.types) c.in-Some.ty) c.in_ok-ty.ty parts structs type.tree)

pub returns : goal.returns
returns c = λ s next.
    let x = c.args.ctx.now in
    let type = c.in_ok-ty.ensures in
    let made = c.in_ok-c.ensures in
    let m = c.value_type.new.back in
    let tree = type_at (type_trees x.types) c.in-Some.ty in
    let parts = constant_parts x c.args.op s c.args.value.now c.result_type.result c.in-Some.ty next.spot c.requires.kind c.result_type.ensures c.in-Some.is in
    let structs = ap (λ (d : ModuleData). d.structs) type.data ∙ spot_structs x c.args.op s c.args.values.now c.args.back.now next in
    let source = constant_source x m s.op c.args.value.now tree c.in_ok-ty.ty parts structs type.tree in
    let const = constant_for x c.const_for.new.back s.op c.args.value.now tree c.in_ok-c.c made.sound parts (made.is (type_trees x.types) source) in
    both c.set.result c.set.ensures.next c.set.ensures.found
    (λ _. constant_done x c.args.op s c.args.values.now c.args.back.now next tree c.in_ok-c.c m c.const_for.new.back c.set.new.self const type.grows type.rest type.data made.grows made.rest made.data made.sound)
