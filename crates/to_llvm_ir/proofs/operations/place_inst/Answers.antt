-- The instruction stands for the operation, and has a name where it has a result.
use Rattle.std.proofs.Common.{◌≡◌, ◌∙◌, ◌+◌, ℕ, Bool, true, false, not, List, [], Option, Some, None, length, take, refl, sym, ap, subst, arith}
use Rattle.std.specs.Option.{option_copied, option_map}
use Rattle.std.specs.Prelude.{is_some}
use Rattle.std.proofs.lemmas.Option.{none-some, slice_get_within}
use Rattle.llvm_core.specs.declared.types.ResultType.{ResultType}
use Rattle.llvm_core.specs.Parts.{result_type}
use Rattle.kinds.specs.Names.{IsGoodOrNone}
use Rattle.dialect_types.specs.declared.types.TypeHandle.{TypeHandle}
use Rattle.dialect_types.specs.Trees.{TypeTree, type_at, type_trees}
use Rattle.to_llvm_ir.specs.Exported.{value_name, result_name}
use Rattle.to_llvm_ir.specs.Made.{number_behind}
use Rattle.to_llvm_ir.specs.States.{first_at}
use Rattle.std.proofs.lemmas.Result.{on_ok_weaker}
use Rattle.support.proofs.ResultLaws.{both}
use Rattle.to_llvm_ir.proofs.OpLaws.{spot_parts, result_is, name_is}
use Rattle.to_llvm_ir.proofs.StepLaws.{void_placed, typed_placed}
use Rattle.to_llvm_ir.proofs.operations.place_inst.Goals as goal

some_is : (o : Option TypeHandle) (r : Option TypeTree) (ts : List TypeTree) → r ≡ option_map (type_at ts) o → (b : Bool) → is_some o ≡ not b → b ≡ false → (t : TypeTree) × (r ≡ Some t)
some_is None r ts e b f h = cc
some_is (Some t) r ts e b f h = (type_at ts t, e)

none_is : (o : Option TypeHandle) (r : Option TypeTree) (ts : List TypeTree) → r ≡ option_map (type_at ts) o → (b : Bool) → is_some o ≡ not b → b ≡ true → r ≡ None
none_is None r ts e b f h = e
none_is (Some t) r ts e b f h = cc

there : (r : Option ResultType) → (r ≡ None → ⊥) → (t : ResultType) × (r ≡ Some t)
there None h = absurd (h refl)
there (Some t) h = (t, refl)

pub returns-then-is_none-clause-ok : goal.returns-then-is_none-clause-ok
returns-then-is_none-clause-ok c = λ s next made here.
    let none = none_is c.result_type.result s.op.result (type_trees c.args.ctx.now.types) (result_is (type_trees c.args.ctx.now.types) c.args.ctx.now.ops c.args.op s.op _ (spot_parts c.args.ctx.now c.args.op s next.spot) c.result_type.ensures) _ c.is_none.ensures c.if-is_none.true in
    let built = c.in_ok-build.ensures in
    void_placed c.args.ctx.now c.args.op s c.args.values.now c.args.back.now next c.args.inst made c.in_ok-build.field-0 [] c.args.block c.build.new.self built.ok built.number built.data built.sound here (ap (λ (r : Option TypeTree). result_name s.op.name r (number_behind (first_at s.task.source s.place + length s.block.args) (take s.at s.block.ops))) (sym none)) none

pub build_result-requires-clause-block : goal.build_result-requires-clause-block
build_result-requires-clause-block c =
    let s = c.requires.spot.0 in
    let next = c.requires.spot.1 in
    let lt = slice_get_within s.task.source.blocks s.place s.block next.spot.here in
    let here = c.requires.spot.3 in
    let count = next.state.block_count in
    omega (arith, lt, here, count)

pub returns-clause-ok : goal.returns-clause-ok
returns-clause-ok c = λ s next made here.
    let parts = spot_parts c.args.ctx.now c.args.op s next.spot in
    let type = some_is c.result_type.result s.op.result (type_trees c.args.ctx.now.types) (result_is (type_trees c.args.ctx.now.types) c.args.ctx.now.ops c.args.op s.op _ parts c.result_type.ensures) _ c.is_none.ensures c.if-is_none.false in
    let built = c.in_ok-i.ensures in
    let r = there (result_type c.args.back.now c.args.inst) (λ e. none-some type.0 (sym (made.void e) ∙ type.1)) in
    let given = name_is (type_trees c.args.ctx.now.types) c.args.ctx.now.ops c.args.op s.op _ parts c.op_name.ensures in
    let name : value_name (option_copied c.op_name.result) c.args.values.now.next ≡ result_name s.op.name s.op.result (number_behind (first_at s.task.source s.place + length s.block.args) (take s.at s.block.ops)) =
    ap (λ (n : Option (List ℕ)). value_name n c.args.values.now.next) (sym given) ∙ ap (value_name s.op.name) next.state.next ∙ ap (λ (t : Option TypeTree). result_name s.op.name t (number_behind (first_at s.task.source s.place + length s.block.args) (take s.at s.block.ops))) (sym type.1) in
    both c.set.result c.set.ensures.next c.set.ensures.found (λ _.
    typed_placed c.args.ctx.now c.args.op s c.args.values.now c.args.back.now next c.args.inst made c.in_ok-i.i (value_name (option_copied c.op_name.result) c.args.values.now.next) c.args.block c.build_result.new.back built.ok built.place built.data built.sound here name type.0 r.0 c.set.new.self type.1 r.1)

pub returns-clause-named : goal.returns-clause-named
returns-clause-named c = λ s spot. on_ok_weaker c.set.result (λ next k lt.
    let parts = spot_parts c.args.ctx.now c.args.op s spot in
    let type = some_is c.result_type.result s.op.result (type_trees c.args.ctx.now.types) (result_is (type_trees c.args.ctx.now.types) c.args.ctx.now.ops c.args.op s.op _ parts c.result_type.ensures) _ c.is_none.ensures c.if-is_none.false in
    let given = name_is (type_trees c.args.ctx.now.types) c.args.ctx.now.ops c.args.op s.op _ parts c.op_name.ensures in
    let good = c.build_result.ensures.good k lt in
    subst (λ (t : Option TypeTree). IsGoodOrNone (result_name s.op.name t k)) (sym type.1) (subst (λ (n : Option (List ℕ)). IsGoodOrNone (value_name n k)) (sym given) good)) c.set.ensures.next

pub build-requires-clause-block : goal.build-requires-clause-block
build-requires-clause-block c =
    let s = c.requires.spot.0 in
    let next = c.requires.spot.1 in
    let lt = slice_get_within s.task.source.blocks s.place s.block next.spot.here in
    let here = c.requires.spot.3 in
    let count = next.state.block_count in
    omega (arith, lt, here, count)

pub build-requires-clause-values : goal.build-requires-clause-values
build-requires-clause-values c = c.requires.spot.2.values

pub build_result-requires-clause-values : goal.build_result-requires-clause-values
build_result-requires-clause-values c = c.requires.spot.2.values

pub build_result-requires-clause-typed : goal.build_result-requires-clause-typed
build_result-requires-clause-typed c = λ e.
    let s = c.requires.spot.0 in
    let parts = spot_parts c.args.ctx.now c.args.op s c.requires.spot.1.spot in
    let type = some_is c.result_type.result s.op.result (type_trees c.args.ctx.now.types) (result_is (type_trees c.args.ctx.now.types) c.args.ctx.now.ops c.args.op s.op _ parts c.result_type.ensures) _ c.is_none.ensures c.if-is_none.false in
    none-some type.0 (sym (c.requires.spot.2.void e) ∙ type.1)
