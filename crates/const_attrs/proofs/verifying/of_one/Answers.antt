-- What `verifying::of_one` owes besides what the check finds.
use Rattle.dialect_types.specs.Trees.{type_at, type_trees}
use Rattle.const_attrs.specs.Trees.{attr_trees, attrs_data}
use Rattle.const_attrs.specs.Verified.{OfOne}
use Rattle.const_attrs.proofs.ListLaws.{one_many, one_not_many, wrong_count, wrong_type, none_wrong}
use Rattle.const_attrs.proofs.verifying.of_one.Goals as goal

pub returns-then-elements-count : goal.returns-then-elements-count
returns-then-elements-count c = wrong_count (attr_trees (type_trees c.args.types.now) (attrs_data c.args.elements.now)) (OfOne c.args.count (type_at (type_trees c.args.types.now) c.args.ty)) (one_not_many (type_trees c.args.types.now) c.args.elements.now c.args.count (type_at (type_trees c.args.types.now) c.args.ty) c.if-elements-count.true)

pub returns-then-not-all_have : goal.returns-then-not-all_have
returns-then-not-all_have c = wrong_type (attr_trees (type_trees c.args.types.now) (attrs_data c.args.elements.now)) (OfOne c.args.count (type_at (type_trees c.args.types.now) c.args.ty)) (one_many (type_trees c.args.types.now) c.args.elements.now c.args.count (type_at (type_trees c.args.types.now) c.args.ty) c.if-elements-count.false) c.if-not-all_have.ensures

pub returns : goal.returns
returns c = none_wrong (attr_trees (type_trees c.args.types.now) (attrs_data c.args.elements.now)) (OfOne c.args.count (type_at (type_trees c.args.types.now) c.args.ty)) (one_many (type_trees c.args.types.now) c.args.elements.now c.args.count (type_at (type_trees c.args.types.now) c.args.ty) c.if-elements-count.false) c.if-not-all_have.ensures
