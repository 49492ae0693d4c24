-- What `types::value_type` and what it calls owe besides what the check finds.
use Rattle.std.proofs.Common.{◌∙◌, All, List, ap, length, map, refl, sym, subst, arith}
use Rattle.std.proofs.lemmas.List.{take_all}
use Rattle.kinds.specs.Held.{IsHeld, IsHeldResult}
use Rattle.kinds.specs.Types.{ArrayType, VectorType, NamedType}
use Rattle.kinds.proofs.HeldLaws.{held_result_if}
use Rattle.llvm_core.specs.Module.{Module}
use Rattle.llvm_core.specs.Data.{trees_of}
use Rattle.llvm_core.specs.declared.types.LLVMTypeKind.TheVariants as T
use Rattle.dialect_types.specs.declared.types.TypeHandle.{TypeHandle}
use Rattle.dialect_types.specs.Trees.{type_at, type_tree, type_trees}
use Rattle.dialect_types.proofs.TextLemmas.{reach-at, earlier_parts}
use Rattle.to_llvm_ir.specs.Growth.{IsTypeOf, AreTypesOf}
use Rattle.to_llvm_ir.proofs.GrowthLaws.{grows_refl, grows_then, grows_type, is_of_kind}
use Rattle.to_llvm_ir.proofs.TypeLaws.{no_types, types_more}
use Rattle.to_llvm_ir.proofs.KindLaws.{array_part, vector_part, struct_parts, all_there, no_parts, struct_stands, held_fit, kind_kept}
use Rattle.to_llvm_ir.proofs.types.+value_type.Goals as goal

-- ---- one type more for each of a list; the earlier ones stay

pub value_types-loop-ty-init : goal.value_types-loop-ty-init
value_types-loop-ty-init t c = record { grows = grows_refl c.args.back.now; rest = refl; same = refl; types = no_types c.args.back.now _ c.new-stand.ensures }

pub value_types-value_type-requires : goal.value_types-value_type-requires
value_types-value_type-requires t c =
    let i = c.loop-ty.ty-index in
    let lt = c.loop-ty-test.true in
    (omega (arith, reach-at c.args.types.now i (record { 0 = 0 }) lt), (c.requires.within i _ lt, held_result_if _ (c.requires.held i _ lt)))

pub value_types-loop-ty-preserved : goal.value_types-loop-ty-preserved
value_types-loop-ty-preserved t c =
    let h = c.loop-ty.invariant in
    let done = c.in_ok-number.ensures in
    record {
      grows = grows_then _ _ _ h.grows done.grows;
      rest = done.rest ∙ ap (λ (m : Module). let n : Module = record m { types = c.value_type.new.back.types } in n) h.rest;
      same = done.data ∙ h.same;
      types = types_more c.loop-ty.back c.value_type.new.back c.loop-ty.stand c.push.new.self c.in_ok-number.number (type_trees c.args.ctx.now.types) c.args.types.now c.loop-ty.ty-index _ c.loop-ty-test.true done.grows h.types done.tree c.in_ok-push.ensures.ok;
    }

pub value_types-returns : goal.value_types-returns
value_types-returns t c =
    let h = c.loop-ty.invariant in
    let ts = type_trees c.args.ctx.now.types in
    record {
      types = subst (λ (xs : List TypeHandle). AreTypesOf c.loop-ty.back c.loop-ty.stand (map (type_at ts) xs)) (take_all c.loop-ty.ty-index c.args.types.now c.loop-ty-test.false) h.types;
      grows = h.grows;
      rest = h.rest;
      «data» = h.same;
      sound = c.types.ensures.sound;
    }

-- ---- the kinds with parts

pub value_kind-value_type-requires : goal.value_kind-value_type-requires
value_kind-value_type-requires t c =
    let types = c.types.ensures in
    let ts = type_trees c.args.ctx.now.types in
    let held = subst IsHeldResult (rw types at c.kind.ensures.tree) c.requires.held in
    let p = array_part ts c.args.ty.0 c.kind.result.now c.kind.ensures.parts held c.in-Array.element c.in-Array.count c.in-Array.is in
    (omega (arith, p.0), (omega (arith, p.0, c.requires.within), p.1))

pub value_kind-returns-in_ok-element-in-Array-clause-tree : goal.value_kind-returns-in_ok-element-in-Array-clause-tree
value_kind-returns-in_ok-element-in-Array-clause-tree t c =
    let types = c.types.ensures in
    ap (ArrayType c.in-Array.count) c.in_ok-element-in-Array.ensures.tree.1 ∙ ap (type_tree (type_trees c.args.ctx.now.types)) (sym c.in-Array.is) ∙ sym (rw types at c.kind.ensures.tree)

pub value_kind-returns-in_ok-element-in-Array-clause-fit : goal.value_kind-returns-in_ok-element-in-Array-clause-fit
value_kind-returns-in_ok-element-in-Array-clause-fit t c =
    let types = c.types.ensures in
    let element = c.in_ok-element-in-Array.ensures in
    let tree = ap (ArrayType c.in-Array.count) element.tree.1 ∙ ap (type_tree (type_trees c.args.ctx.now.types)) (sym c.in-Array.is) ∙ sym (rw types at c.kind.ensures.tree) in
    held_fit c.value_type.new.back element.sound (T.Array c.in-Array.count c.in_ok-element-in-Array.element) element.tree.0 (subst IsHeldResult (sym tree) c.requires.held)

pub value_kind-value_type-requires-in-Vector : goal.value_kind-value_type-requires-in-Vector
value_kind-value_type-requires-in-Vector t c =
    let types = c.types.ensures in
    let ts = type_trees c.args.ctx.now.types in
    let held = subst IsHeldResult (rw types at c.kind.ensures.tree) c.requires.held in
    let p = vector_part ts c.args.ty.0 c.kind.result.now c.kind.ensures.parts held c.in-Vector.element c.in-Vector.count c.in-Vector.kind c.in-Vector.is in
    (omega (arith, p.0), (omega (arith, p.0, c.requires.within), p.1))

pub value_kind-returns-in_ok-element-in-Vector-clause-tree : goal.value_kind-returns-in_ok-element-in-Vector-clause-tree
value_kind-returns-in_ok-element-in-Vector-clause-tree t c =
    let types = c.types.ensures in
    ap (VectorType c.in-Vector.kind c.in-Vector.count) c.in_ok-element-in-Vector.ensures.tree.1 ∙ ap (type_tree (type_trees c.args.ctx.now.types)) (sym c.in-Vector.is) ∙ sym (rw types at c.kind.ensures.tree)

pub value_kind-returns-in_ok-element-in-Vector-clause-fit : goal.value_kind-returns-in_ok-element-in-Vector-clause-fit
value_kind-returns-in_ok-element-in-Vector-clause-fit t c =
    let types = c.types.ensures in
    let element = c.in_ok-element-in-Vector.ensures in
    let tree = ap (VectorType c.in-Vector.kind c.in-Vector.count) element.tree.1 ∙ ap (type_tree (type_trees c.args.ctx.now.types)) (sym c.in-Vector.is) ∙ sym (rw types at c.kind.ensures.tree) in
    held_fit c.value_type-in-Vector.new.back element.sound (T.Vector c.in-Vector.kind c.in-Vector.count c.in_ok-element-in-Vector.element) element.tree.0 (subst IsHeldResult (sym tree) c.requires.held)

pub value_kind-value_types-requires : goal.value_kind-value_types-requires
value_kind-value_types-requires t c =
    let types = c.types.ensures in
    let ts = type_trees c.args.ctx.now.types in
    let n = length c.args.ctx.now.types in
    let held = subst IsHeldResult (rw types at c.kind.ensures.tree) c.requires.held in
    let p = struct_parts ts c.args.ty.0 c.kind.result.now c.kind.ensures.parts held c.in-Struct.fields c.in-Struct.layout c.in-Struct.is in
    let earlier = earlier_parts c.args.ty.0 n c.in-Struct.fields c.as_slice.result.now c.as_slice.ensures c.requires.within p.0 in (
      omega (arith, earlier.1),
      (all_there n c.as_slice.result.now earlier.0, subst (λ (xs : List TypeHandle). All (λ (u : TypeHandle). IsHeld (type_at ts u)) xs) (sym c.as_slice.ensures) p.1),
    )

pub value_kind-returns-in_ok-fields-in-Struct-clause-tree : goal.value_kind-returns-in_ok-fields-in-Struct-clause-tree
value_kind-returns-in_ok-fields-in-Struct-clause-tree t c =
    let types = c.types.ensures in
    let ts = type_trees c.args.ctx.now.types in
    let are = subst (λ (xs : List TypeHandle). AreTypesOf c.value_types.new.back c.in_ok-fields-in-Struct.fields (map (type_at ts) xs)) c.as_slice.ensures c.in_ok-fields-in-Struct.ensures.types in
    struct_stands c.value_types.new.back ts c.in_ok-fields-in-Struct.fields c.in-Struct.fields c.in-Struct.layout are ∙ ap (type_tree ts) (sym c.in-Struct.is) ∙ sym (rw types at c.kind.ensures.tree)

pub value_kind-returns-in_ok-fields-in-Struct-clause-fit : goal.value_kind-returns-in_ok-fields-in-Struct-clause-fit
value_kind-returns-in_ok-fields-in-Struct-clause-fit t c =
    let types = c.types.ensures in
    let ts = type_trees c.args.ctx.now.types in
    let done = c.in_ok-fields-in-Struct.ensures in
    let fields = c.in_ok-fields-in-Struct.fields in
    let are = subst (λ (xs : List TypeHandle). AreTypesOf c.value_types.new.back fields (map (type_at ts) xs)) c.as_slice.ensures done.types in
    let tree = struct_stands c.value_types.new.back ts fields c.in-Struct.fields c.in-Struct.layout are ∙ ap (type_tree ts) (sym c.in-Struct.is) ∙ sym (rw types at c.kind.ensures.tree) in
    held_fit c.value_types.new.back done.sound (T.Literal fields c.in-Struct.layout) done.types.0 (subst IsHeldResult (sym tree) c.requires.held)

pub value_kind-returns-in_ok-name-in-Named-clause-tree : goal.value_kind-returns-in_ok-name-in-Named-clause-tree
value_kind-returns-in_ok-name-in-Named-clause-tree t c =
    let types = c.types.ensures in
    ap NamedType (c.in_ok-name-in-Named.ensures ∙ c.as_str.ensures.text) ∙ ap (type_tree (type_trees c.args.ctx.now.types)) (sym c.in-Named.is) ∙ sym (rw types at c.kind.ensures.tree)

pub value_kind-returns-in_ok-name-in-Named-clause-grows : goal.value_kind-returns-in_ok-name-in-Named-clause-grows
value_kind-returns-in_ok-name-in-Named-clause-grows t c = grows_refl c.args.back.now

-- ---- the others

pub value_kind-plain_kind-requires : goal.value_kind-plain_kind-requires
value_kind-plain_kind-requires t c =
    let types = c.types.ensures in
    let ts = type_trees c.args.ctx.now.types in
    (ts, subst IsHeldResult (rw types at c.kind.ensures.tree) c.requires.held, no_parts ts c.kind.result.now c.in_default.not-Array c.in_default.not-Vector c.in_default.not-Struct c.in_default.not-Named)

pub value_kind-returns-in_default : goal.value_kind-returns-in_default
value_kind-returns-in_default t c =
    let types = c.types.ensures in
    let plain = c.plain_kind.ensures in
    record {
      over = plain.over (length c.args.back.now.types);
      fit = plain.fit c.args.back.now.types;
      tree = plain.tree (trees_of c.args.back.now).types (type_trees c.args.ctx.now.types) ∙ sym (rw types at c.kind.ensures.tree);
      grows = grows_refl c.args.back.now;
      rest = refl;
      «data» = refl;
    }

-- ---- the type

-- its kind keeps its tree
pub value_type-returns : goal.value_type-returns
value_type-returns t c =
    let kind = c.in_ok-kind.ensures in
    let last = c.in_ok-number.ensures in
    let grown = grows_type c.value_kind.new.back c.type_get.new.back _ _ last.interned last.rest in
    record {
      tree = subst (IsTypeOf c.type_get.new.back c.in_ok-number.number) (kind_kept _ _ _ grown kind.over ∙ kind.tree) (is_of_kind _ _ _ last.sound last.interned.here);
      grows = grows_then _ _ _ kind.grows grown;
      rest = last.rest ∙ ap (λ (m : Module). let n : Module = record m { types = c.type_get.new.back.types } in n) kind.rest;
      «data» = last.data ∙ kind.data;
      sound = last.sound;
    }
