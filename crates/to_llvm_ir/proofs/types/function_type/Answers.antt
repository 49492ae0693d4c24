-- The parts of the type are those of the form.
use Rattle.std.proofs.Common.{◌∙◌, ap, false, List, All, ◌<◌, length, map, sym, subst}
use Rattle.llvm_core.specs.Module.{Module}
use Rattle.kinds.specs.Held.{IsHeld}
use Rattle.dialect_types.specs.declared.types.TypeHandle.{TypeHandle}
use Rattle.dialect_types.specs.Trees.{type_at, type_trees}
use Rattle.to_llvm_ir.specs.Growth.{AreTypesOf}
use Rattle.to_llvm_ir.proofs.GrowthLaws.{grows_then, grows_type, type_kept, types_kept}
use Rattle.to_llvm_ir.proofs.TypeLaws.{form_parts, function_type, function_tree_alone}
use Rattle.to_llvm_ir.proofs.types.function_type.Goals as goal

pub value_type-requires : goal.value_type-requires
value_type-requires c =
    let types = c.types.ensures in
    let parts = form_parts (type_trees c.args.ctx.now.types) _ _ _ _ _ _ _ c.requires.form c.requires.within c.in-Func.is c.kind.ensures.parts (rw types at c.kind.ensures.tree) in
    record { within = parts.result_there; held = parts.result_held }

pub value_types-requires-clause-within : goal.value_types-requires-clause-within
value_types-requires-clause-within c =
    let types = c.types.ensures in
    let parts = form_parts (type_trees c.args.ctx.now.types) _ _ _ _ _ _ _ c.requires.form c.requires.within c.in-Func.is c.kind.ensures.parts (rw types at c.kind.ensures.tree) in
    subst (λ (xs : List TypeHandle). All (λ (t : TypeHandle). t.0 < length c.args.ctx.now.types) xs) (sym c.as_slice.ensures) parts.params_there

pub value_types-requires-clause-held : goal.value_types-requires-clause-held
value_types-requires-clause-held c =
    let types = c.types.ensures in
    let parts = form_parts (type_trees c.args.ctx.now.types) _ _ _ _ _ _ _ c.requires.form c.requires.within c.in-Func.is c.kind.ensures.parts (rw types at c.kind.ensures.tree) in
    subst (λ (xs : List TypeHandle). All (λ (t : TypeHandle). IsHeld (type_at (type_trees c.args.ctx.now.types) t)) xs) (sym c.as_slice.ensures) parts.params_held

pub unreachable-requires : goal.unreachable-requires
unreachable-requires c =
    let types = c.types.ensures in
    let tree = rw types at c.kind.ensures.tree in
    let form = c.requires.form in
    function_tree_alone (type_trees c.args.ctx.now.types) _ form.result form.params false c.in_default.not-Func (sym tree ∙ form.is)

-- what the type is made of is there
pub type_get-requires-clause-parts : goal.type_get-requires-clause-parts
type_get-requires-clause-parts c =
    let two = c.in_ok-params-in-Func.ensures in
    ((type_kept _ _ _ _ two.grows c.in_ok-result-in-Func.ensures.tree).0, two.types.0)

pub returns : goal.returns
returns c =
    let types = c.types.ensures in
    let one = c.in_ok-result-in-Func.ensures in
    let two = c.in_ok-params-in-Func.ensures in
    let last = c.in_ok-number-in-Func.ensures in
    let grown = grows_type c.value_types.new.back c.type_get.new.back _ _ last.interned last.rest in
    let params = subst (λ (xs : List TypeHandle). AreTypesOf c.value_types.new.back c.in_ok-params-in-Func.params (map (type_at (type_trees c.args.ctx.now.types)) xs)) c.as_slice.ensures two.types in
    let made = function_type _ _ _ _ _ _ _ _ _ _ _ last.sound last.interned c.in-Func.is (rw types at c.kind.ensures.tree) (type_kept _ _ _ _ grown (type_kept _ _ _ _ two.grows one.tree)) (types_kept _ _ _ _ grown params) in
    record {
      function = made.0;
      tree = made.1;
      grows = grows_then _ _ _ one.grows (grows_then _ _ _ two.grows grown);
      rest = last.rest ∙ ap (λ (m : Module). let n : Module = record m { types = c.type_get.new.back.types } in n) (two.rest ∙ ap (λ (m : Module). let n : Module = record m { types = c.value_types.new.back.types } in n) one.rest);
      «data» = last.data ∙ two.data ∙ one.data;
      sound = last.sound;
    }
