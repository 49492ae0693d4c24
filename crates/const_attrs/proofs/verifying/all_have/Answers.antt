-- What `verifying::all_have` owes besides what the check finds.
use Rattle.std.proofs.Common.{List, length, false, true, ap, sym, ◌∙◌, arith}
use Rattle.std.proofs.lemmas.List.{drop_all}
use Rattle.dialect_types.specs.Trees.{type_at, type_trees}
use Rattle.const_attrs.specs.declared.const_attr.ConstAttr.{ConstAttr}
use Rattle.const_attrs.specs.Trees.{attr_trees, attrs_data}
use Rattle.const_attrs.specs.Verified.{all_have}
use Rattle.const_attrs.proofs.ListLaws.{types_at_index, all_have_more}
use Rattle.const_attrs.proofs.verifying.all_have.Goals as goal

pub has_type-requires-clause-below : goal.has_type-requires-clause-below
has_type-requires-clause-below c = types_at_index (length c.args.types.now) c.args.elements.now c.loop-element.element-index c.element-item.result c.requires.below c.loop-element-test.true c.element-item.is

pub returns-then-not-has_type : goal.returns-then-not-has_type
returns-then-not-has_type c = sym (all_have_more (type_trees c.args.types.now) c.args.elements.now c.loop-element.element-index c.element-item.result (type_at (type_trees c.args.types.now) c.args.ty) _ false c.loop-element-test.true c.element-item.is c.loop-element.invariant c.if-not-has_type.ensures)

pub loop-element-preserved : goal.loop-element-preserved
loop-element-preserved c = all_have_more (type_trees c.args.types.now) c.args.elements.now c.loop-element.element-index c.element-item.result (type_at (type_trees c.args.types.now) c.args.ty) _ true c.loop-element-test.true c.element-item.is c.loop-element.invariant c.if-not-has_type.ensures

pub returns : goal.returns
returns c = sym (c.loop-element.invariant ∙ ap (λ (xs : List ConstAttr). all_have (attr_trees (type_trees c.args.types.now) (attrs_data xs)) (type_at (type_trees c.args.types.now) c.args.ty)) (drop_all c.loop-element.element-index c.args.elements.now (omega arith)))
