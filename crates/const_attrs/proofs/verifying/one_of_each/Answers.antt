-- What `verifying::one_of_each` owes besides what the check finds.
use Rattle.dialect_types.specs.Trees.{types_at, type_trees}
use Rattle.const_attrs.specs.Trees.{attr_trees, attrs_data}
use Rattle.const_attrs.specs.Verified.{OneOfEach}
use Rattle.const_attrs.proofs.ListLaws.{each_many, each_not_many, wrong_count, wrong_type, none_wrong}
use Rattle.const_attrs.proofs.verifying.one_of_each.Goals as goal

pub returns-then-elements-tys : goal.returns-then-elements-tys
returns-then-elements-tys c = wrong_count (attr_trees (type_trees c.args.types.now) (attrs_data c.args.elements.now)) (OneOfEach (types_at (type_trees c.args.types.now) c.args.tys.now)) (each_not_many (type_trees c.args.types.now) c.args.elements.now c.args.tys.now c.if-elements-tys.true)

pub returns-then-not-each_has : goal.returns-then-not-each_has
returns-then-not-each_has c = wrong_type (attr_trees (type_trees c.args.types.now) (attrs_data c.args.elements.now)) (OneOfEach (types_at (type_trees c.args.types.now) c.args.tys.now)) (each_many (type_trees c.args.types.now) c.args.elements.now c.args.tys.now c.if-elements-tys.false) c.if-not-each_has.ensures

pub returns : goal.returns
returns c = none_wrong (attr_trees (type_trees c.args.types.now) (attrs_data c.args.elements.now)) (OneOfEach (types_at (type_trees c.args.types.now) c.args.tys.now)) (each_many (type_trees c.args.types.now) c.args.elements.now c.args.tys.now c.if-elements-tys.false) c.if-not-each_has.ensures
