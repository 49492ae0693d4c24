-- What `op_tests::constant_fits` owes besides what the check finds.
use Rattle.std.proofs.Common.{sym, ◌∙◌}
use Rattle.dialect_types.specs.Trees.{type_trees}
use Rattle.const_attrs.specs.Trees.{attr_tree, attr_data}
use Rattle.dialect_core.proofs.OpTestLemmas.{constant_typed, constant_other}
use Rattle.dialect_core.proofs.op_tests.constant_fits.Goals as goal

pub returns-then-has_type : goal.returns-then-has_type
returns-then-has_type c =
    let ts = type_trees c.args.types.now in
    constant_typed ts (attr_tree ts (attr_data c.args.value.now)) c.args.own c.in-Some.ty c.is_first_class.result c.in-Some.is (sym c.if-has_type.true ∙ c.has_type.ensures) c.is_first_class.ensures

pub returns-else-has_type : goal.returns-else-has_type
returns-else-has_type c =
    let ts = type_trees c.args.types.now in
    constant_other ts (attr_tree ts (attr_data c.args.value.now)) c.args.own c.in-Some.ty c.has_type.result c.in-Some.is c.has_type.ensures c.if-has_type.false
