-- What `type_tests::params_of` owes besides what the check finds.
use Rattle.dialect_types.specs.Trees.{type_at, type_trees}
use Rattle.dialect_core.proofs.TypeTestLemmas.{params_below, params_are}
use Rattle.dialect_core.proofs.type_tests.params_of.Goals as goal

pub returns-in-Func-clause-params : goal.returns-in-Func-clause-params
returns-in-Func-clause-params c = params_are (type_trees c.args.types.now) (type_at (type_trees c.args.types.now) c.args.ty) c.kind.result.now c.in-Func.result c.in-Func.params c.as_slice.result.now c.in-Func.variadic c.in-Func.is c.kind.ensures.tree c.as_slice.ensures

pub returns-in-Func-clause-within : goal.returns-in-Func-clause-within
returns-in-Func-clause-within c = params_below c.args.ty.0 _ c.kind.result.now c.in-Func.result c.in-Func.params c.as_slice.result.now c.in-Func.variadic c.in-Func.is c.kind.ensures.parts c.requires c.as_slice.ensures
