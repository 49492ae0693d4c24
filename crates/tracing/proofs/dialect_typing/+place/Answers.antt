-- What the cycle of `dialect_typing::place` owes besides what the check finds.
use Rattle.std.proofs.Common.{◌<◌, All, subst, ap, sym, ◌∙◌, arith}
use Rattle.kinds.specs.Types.{ArrayType, VectorType, StructType}
use Rattle.kinds.specs.Held.{IsFirstClass}
use Rattle.kinds.proofs.HeldLaws.{first_class_value, first_class_int}
use Rattle.dialect_types.specs.declared.types.TypeHandle.{TypeHandle}
use Rattle.dialect_types.specs.Trees.{HasPartsBelow, type_at, type_tree, type_trees}
use Rattle.tracing.specs.Types.{AreHandlesBelow}
use Rattle.tracing.specs.TypePlaces.{trees_in}
use Rattle.tracing.proofs.GrowLaws.{stand_more, stands_at, all_at, place_below, places_below, then_grown}
use Rattle.tracing.proofs.DialectTypes.{element_first_class, item_first_class, fields_first_class, below_all, same_fields}
use Rattle.tracing.proofs.dialect_typing.+place.Goals as goal

abbrev some_type : TypeHandle
some_type = record { 0 = 0 }

pub parts-loop-part-preserved : goal.parts-loop-part-preserved
parts-loop-part-preserved t c =
    let source = type_trees c.args.ctx.now.types in
    let grown = c.in_ok-place.ensures.grown in
    record {
      grown = then_grown source _ _ _ c.loop-part.invariant.grown grown;
      stand = rw c.in_ok-push.ensures.ok
          (stand_more (type_at source) _ _ c.loop-part.places c.in_ok-place.place c.args.parts.now c.loop-part.part-index some_type c.loop-part-test.true grown.kept c.loop-part.invariant.stand c.in_ok-place.ensures.stands);
    }

pub placed_kind-place-requires : goal.placed_kind-place-requires
placed_kind-place-requires t c =
    let ts = type_trees c.args.ctx.now.types in
    let below : c.in-Array.element.0 < c.args.ty.0 = subst (HasPartsBelow c.args.ty.0) c.in-Array.is c.kind_of.ensures.below in
    let whole = subst IsFirstClass (c.kind_of.ensures.tree ∙ ap (type_tree ts) c.in-Array.is) c.requires.first_class in
    (omega (arith, below), (omega (arith, below, c.requires.within), (element_first_class c.in-Array.count (type_at ts c.in-Array.element) whole, c.requires.places)))

pub placed_kind-place-requires-in-Vector : goal.placed_kind-place-requires-in-Vector
placed_kind-place-requires-in-Vector t c =
    let ts = type_trees c.args.ctx.now.types in
    let below : c.in-Vector.element.0 < c.args.ty.0 = subst (HasPartsBelow c.args.ty.0) c.in-Vector.is c.kind_of.ensures.below in
    let whole = subst IsFirstClass (c.kind_of.ensures.tree ∙ ap (type_tree ts) c.in-Vector.is) c.requires.first_class in
    (omega (arith, below), (omega (arith, below, c.requires.within), (item_first_class c.in-Vector.kind c.in-Vector.count (type_at ts c.in-Vector.element) whole, c.requires.places)))

pub placed_kind-parts-requires : goal.placed_kind-parts-requires
placed_kind-parts-requires t c =
    let ts = type_trees c.args.ctx.now.types in
    let below = below_all c.args.ty.0 c.in-Struct.fields (subst (HasPartsBelow c.args.ty.0) c.in-Struct.is c.kind_of.ensures.below) in
    let whole = subst IsFirstClass (c.kind_of.ensures.tree ∙ ap (type_tree ts) c.in-Struct.is) c.requires.first_class in
    let fields = fields_first_class ts c.in-Struct.layout c.in-Struct.fields whole in
    (omega arith, (c.requires.within, (subst (AreHandlesBelow c.args.ty.0) (sym c.as_slice.ensures) below, (subst (All (λ (t : TypeHandle). IsFirstClass (type_at ts t))) (sym c.as_slice.ensures) fields, c.requires.places))))

pub placed_kind-unreachable-requires : goal.placed_kind-unreachable-requires
placed_kind-unreachable-requires t c =
    let value = first_class_value _ (subst IsFirstClass (c.kind_of.ensures.tree ∙ ap (type_tree (type_trees c.args.ctx.now.types)) c.in-Void.is) c.requires.first_class) in
    cc

pub placed_kind-unreachable-requires-in-Func : goal.placed_kind-unreachable-requires-in-Func
placed_kind-unreachable-requires-in-Func t c =
    let value = first_class_value _ (subst IsFirstClass (c.kind_of.ensures.tree ∙ ap (type_tree (type_trees c.args.ctx.now.types)) c.in-Func.is) c.requires.first_class) in
    cc

pub placed_kind-returns-in-Integer-clause-over : goal.placed_kind-returns-in-Integer-clause-over
placed_kind-returns-in-Integer-clause-over t c =
    first_class_int c.in-Integer.width (subst IsFirstClass (c.kind_of.ensures.tree ∙ ap (type_tree (type_trees c.args.ctx.now.types)) c.in-Integer.is) c.requires.first_class)

pub placed_kind-returns-in_ok-element-in-Array-clause-over : goal.placed_kind-returns-in_ok-element-in-Array-clause-over
placed_kind-returns-in_ok-element-in-Array-clause-over t c = place_below _ _ _ c.in_ok-element-in-Array.ensures.stands

pub placed_kind-returns-in_ok-element-in-Array-clause-tree : goal.placed_kind-returns-in_ok-element-in-Array-clause-tree
placed_kind-returns-in_ok-element-in-Array-clause-tree t c =
    let whole = c.kind_of.ensures.tree ∙ ap (type_tree (type_trees c.args.ctx.now.types)) c.in-Array.is in
    ap (ArrayType c.in-Array.count) (stands_at (trees_in c.place.new.types) c.in_ok-element-in-Array.element (type_at (type_trees c.args.ctx.now.types) c.in-Array.element) c.in_ok-element-in-Array.ensures.stands) ∙ sym whole

pub placed_kind-returns-in_ok-element-in-Vector-clause-over : goal.placed_kind-returns-in_ok-element-in-Vector-clause-over
placed_kind-returns-in_ok-element-in-Vector-clause-over t c = place_below _ _ _ c.in_ok-element-in-Vector.ensures.stands

pub placed_kind-returns-in_ok-element-in-Vector-clause-tree : goal.placed_kind-returns-in_ok-element-in-Vector-clause-tree
placed_kind-returns-in_ok-element-in-Vector-clause-tree t c =
    let whole = c.kind_of.ensures.tree ∙ ap (type_tree (type_trees c.args.ctx.now.types)) c.in-Vector.is in
    ap (VectorType c.in-Vector.kind c.in-Vector.count) (stands_at (trees_in c.place-in-Vector.new.types) c.in_ok-element-in-Vector.element (type_at (type_trees c.args.ctx.now.types) c.in-Vector.element) c.in_ok-element-in-Vector.ensures.stands) ∙ sym whole

pub placed_kind-returns-in_ok-fields-in-Struct-clause-over : goal.placed_kind-returns-in_ok-fields-in-Struct-clause-over
placed_kind-returns-in_ok-fields-in-Struct-clause-over t c = places_below _ _ _ c.in_ok-fields-in-Struct.ensures.stand

pub placed_kind-returns-in_ok-fields-in-Struct-clause-tree : goal.placed_kind-returns-in_ok-fields-in-Struct-clause-tree
placed_kind-returns-in_ok-fields-in-Struct-clause-tree t c =
    let source = type_trees c.args.ctx.now.types in
    let list = rw c.as_slice.ensures at c.in_ok-fields-in-Struct.ensures.stand in
    let whole = c.kind_of.ensures.tree ∙ ap (type_tree source) c.in-Struct.is in
    ap (StructType c.in-Struct.layout) (same_fields _ source _ _ (all_at _ _ _ list)) ∙ sym whole
