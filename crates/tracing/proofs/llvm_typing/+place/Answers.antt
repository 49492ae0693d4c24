-- What the cycle of `llvm_typing::place` owes besides what the check finds.
use Rattle.std.proofs.Common.{◌≡◌, Bool, List, map, ap, sym, ◌∙◌}
use Rattle.kinds.specs.Types.{ArrayType, VectorType, StructType, FunctionType}
use Rattle.llvm_core.specs.declared.numbers.LLVMType.{LLVMType}
use Rattle.llvm_core.specs.Data.{TypeTree, type_at, types_at, type_tree, trees_of}
use Rattle.tracing.specs.Types.{Stands, AllStand}
use Rattle.tracing.specs.TypePlaces.{trees_in}
use Rattle.tracing.proofs.GrowLaws.{all_stay, stand_more, same_parts, stands_at, place_below, places_below, then_grown}
use Rattle.tracing.proofs.llvm_typing.+place.Goals as goal

abbrev some_type : LLVMType
some_type = record { 0 = 0 }

-- a function type by the places of its parts
function_tree : (source trees : List TypeTree) (ty : TypeTree) (result place : LLVMType) (params places : List LLVMType) (variadic : Bool) → ty ≡ FunctionType (type_at source result) (types_at source params) variadic
    → Stands trees place (type_at source result) → AllStand trees places (map (type_at source) params) → FunctionType (type_at trees place) (types_at trees places) variadic ≡ ty
function_tree source trees ty result place params places variadic is first rest =
    let e = stands_at trees place (type_at source result) first in
    let f = same_parts source trees params places rest in
    cc

pub parts-loop-part-preserved : goal.parts-loop-part-preserved
parts-loop-part-preserved t c =
    let source = (trees_of c.args.m.now).types in
    let grown = c.in_ok-place.ensures.grown in
    record {
      grown = then_grown source _ _ _ c.loop-part.invariant.grown grown;
      stand = rw c.in_ok-push.ensures.ok
          (stand_more (type_at source) _ _ c.loop-part.places c.in_ok-place.place c.args.parts.now c.loop-part.part-index some_type c.loop-part-test.true grown.kept c.loop-part.invariant.stand c.in_ok-place.ensures.stands);
    }

pub placed_kind-returns-in_ok-place-in-Function-clause-over :
    goal.placed_kind-returns-in_ok-place-in-Function-clause-over
placed_kind-returns-in_ok-place-in-Function-clause-over t c =
    let params = all_stay _ _ c.in_ok-place-in-Function.ensures.grown.kept _ _ c.in_ok-params-in-Function.ensures.stand in
    (place_below _ _ _ c.in_ok-place-in-Function.ensures.stands, places_below _ _ _ params)

pub placed_kind-returns-in_ok-place-in-Function-clause-tree :
    goal.placed_kind-returns-in_ok-place-in-Function-clause-tree
placed_kind-returns-in_ok-place-in-Function-clause-tree t c =
    let source = (trees_of c.args.m.now).types in
    let list = rw c.as_slice-in-Function.ensures at c.in_ok-params-in-Function.ensures.stand in
    let params = all_stay _ _ c.in_ok-place-in-Function.ensures.grown.kept _ _ list in
    let whole = c.kind_of.ensures.tree ∙ ap (type_tree source) c.in-Function.is in
    function_tree source _ _ _ _ _ _ c.in-Function.variadic whole c.in_ok-place-in-Function.ensures.stands params

pub placed_kind-returns-in_ok-element-in-Array-clause-over : goal.placed_kind-returns-in_ok-element-in-Array-clause-over
placed_kind-returns-in_ok-element-in-Array-clause-over t c = place_below _ _ _ c.in_ok-element-in-Array.ensures.stands

pub placed_kind-returns-in_ok-element-in-Array-clause-tree : goal.placed_kind-returns-in_ok-element-in-Array-clause-tree
placed_kind-returns-in_ok-element-in-Array-clause-tree t c =
    let whole = c.kind_of.ensures.tree ∙ ap (type_tree (trees_of c.args.m.now).types) c.in-Array.is in
    ap (ArrayType c.in-Array.count) (stands_at (trees_in c.place.new.types) c.in_ok-element-in-Array.element (type_at (trees_of c.args.m.now).types c.in-Array.element) c.in_ok-element-in-Array.ensures.stands) ∙ sym whole

pub placed_kind-returns-in_ok-element-in-Vector-clause-over : goal.placed_kind-returns-in_ok-element-in-Vector-clause-over
placed_kind-returns-in_ok-element-in-Vector-clause-over t c = place_below _ _ _ c.in_ok-element-in-Vector.ensures.stands

pub placed_kind-returns-in_ok-element-in-Vector-clause-tree : goal.placed_kind-returns-in_ok-element-in-Vector-clause-tree
placed_kind-returns-in_ok-element-in-Vector-clause-tree t c =
    let whole = c.kind_of.ensures.tree ∙ ap (type_tree (trees_of c.args.m.now).types) c.in-Vector.is in
    ap (VectorType c.in-Vector.kind c.in-Vector.count) (stands_at (trees_in c.place-in-Vector.new.types) c.in_ok-element-in-Vector.element (type_at (trees_of c.args.m.now).types c.in-Vector.element) c.in_ok-element-in-Vector.ensures.stands) ∙ sym whole

pub placed_kind-returns-in_ok-fields-in-Literal-clause-over : goal.placed_kind-returns-in_ok-fields-in-Literal-clause-over
placed_kind-returns-in_ok-fields-in-Literal-clause-over t c = places_below _ _ _ c.in_ok-fields-in-Literal.ensures.stand

pub placed_kind-returns-in_ok-fields-in-Literal-clause-tree : goal.placed_kind-returns-in_ok-fields-in-Literal-clause-tree
placed_kind-returns-in_ok-fields-in-Literal-clause-tree t c =
    let source = (trees_of c.args.m.now).types in
    let list = rw c.as_slice.ensures at c.in_ok-fields-in-Literal.ensures.stand in
    let whole = c.kind_of.ensures.tree ∙ ap (type_tree source) c.in-Literal.is in
    ap (StructType c.in-Literal.layout) (same_parts source _ _ _ list) ∙ sym whole
