-- What `type_tests::is_signature` owes besides what the check finds.
use Rattle.dialect_types.specs.Trees.{type_at, type_trees}
use Rattle.dialect_core.proofs.TestLemmas.{iff_trans}
use Rattle.dialect_core.proofs.TypeTestLemmas.{params_below, signature_is}
use Rattle.dialect_core.proofs.type_tests.is_signature.Goals as goal

pub are_first_class-requires-clause-params : goal.are_first_class-requires-clause-params
are_first_class-requires-clause-params c = params_below c.args.ty.0 _ c.kind.result.now c.in-Func.returned c.in-Func.params c.as_slice.result.now c.in-Func.variadic c.in-Func.is c.kind.ensures.parts c.requires c.as_slice.ensures

pub returns-in-Func : goal.returns-in-Func
returns-in-Func c =
    iff_trans c.are_first_class.ensures
    (signature_is (type_trees c.args.types.now) (type_at (type_trees c.args.types.now) c.args.ty) c.kind.result.now c.in-Func.returned c.in-Func.params c.as_slice.result.now c.in-Func.variadic c.in-Func.is c.kind.ensures.tree c.as_slice.ensures c.kind.ensures.nesting)
