-- The constant is what the operation says, of the type of its result.
use Rattle.std.proofs.Common.{◌≡◌, None, ap, ◌∙◌}
use Rattle.std.proofs.lemmas.Option.{slice_get_within}
use Rattle.support.proofs.ResultLaws.{both}
use Rattle.kinds.proofs.HeldLaws.{held_result_if}
use Rattle.llvm_core.specs.Data.{filled_const}
use Rattle.dialect_types.specs.Trees.{type_at, type_trees}
use Rattle.to_llvm_ir.proofs.GrowthLaws.{grows_const}
use Rattle.to_llvm_ir.proofs.ListLaws.{by_option}
use Rattle.to_llvm_ir.proofs.OpLaws.{result_there}
use Rattle.to_llvm_ir.proofs.ConstOpLaws.{filled_parts, filled_some, filled_for}
use Rattle.to_llvm_ir.proofs.StepLaws.{constant_done}
use Rattle.to_llvm_ir.proofs.operations.convert_filled.Goals as goal

pub unreachable-requires : goal.unreachable-requires
unreachable-requires c = filled_some c.args.ctx.now c.args.op c.requires.spot.0 c.args.fill c.result_type.result c.requires.spot.1.spot c.requires.kind c.result_type.ensures
    (by_option (c.result_type.result ≡ None) c.result_type.result (λ e. e) (λ x is. absurd (c.in_default.not-Some x is)))

pub value_type-requires-clause-within : goal.value_type-requires-clause-within
value_type-requires-clause-within c = result_there c.args.ctx.now c.args.op c.result_type.result c.in-Some.ty c.requires.typed c.result_type.ensures c.in-Some.is

pub value_type-requires-clause-held : goal.value_type-requires-clause-held
value_type-requires-clause-held c = held_result_if _ (filled_parts c.args.ctx.now c.args.op c.requires.spot.0 c.args.fill c.result_type.result c.in-Some.ty c.requires.spot.1.spot c.requires.kind c.result_type.ensures c.in-Some.is).held

pub const_get-requires : goal.const_get-requires
const_get-requires c = c.in_ok-ty.ensures.tree.0

pub returns : goal.returns
returns c = λ s next.
    let parts = filled_parts c.args.ctx.now c.args.op s c.args.fill c.result_type.result c.in-Some.ty next.spot c.requires.kind c.result_type.ensures c.in-Some.is in
    let type = c.in_ok-ty.ensures in
    let made = c.in_ok-c.ensures in
    let m = c.value_type.new.back in
    let tree = type_at (type_trees c.args.ctx.now.types) c.in-Some.ty in
    let there = slice_get_within c.const_get.new.self.consts c.in_ok-c.c.0 _ made.interned.here in
    let const = filled_for c.const_get.new.self s.op c.args.fill tree c.in_ok-c.c made.sound parts there (made.form ∙ ap (filled_const c.args.fill) type.tree.1) in
    both c.set.result c.set.ensures.next c.set.ensures.found
    (λ _. constant_done c.args.ctx.now c.args.op s c.args.values.now c.args.back.now next tree c.in_ok-c.c m c.const_get.new.self c.set.new.self const type.grows type.rest type.data (grows_const m c.const_get.new.self _ c.in_ok-c.c.0 made.interned made.rest) made.rest made.data made.sound)
