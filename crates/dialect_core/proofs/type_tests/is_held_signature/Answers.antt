-- What `type_tests::is_held_signature` owes besides what the check finds.
use Rattle.std.proofs.Common.{arith}
use Rattle.dialect_types.specs.Trees.{type_at, type_trees}
use Rattle.dialect_core.proofs.TestLemmas.{iff_trans}
use Rattle.dialect_core.proofs.TypeTestLemmas.{params_below, held_is}
use Rattle.dialect_core.proofs.type_tests.is_held_signature.Goals as goal

pub are_held-requires-clause-params : goal.are_held-requires-clause-params
are_held-requires-clause-params c = params_below c.args.ty.0 _ c.kind.result.now c.in-Func.returned c.in-Func.params c.as_slice.result.now c.in-Func.variadic c.in-Func.is c.kind.ensures.parts c.requires c.as_slice.ensures

pub returns-then-not-variadic : goal.returns-then-not-variadic
returns-then-not-variadic c =
    iff_trans c.are_held.ensures
    (held_is (type_trees c.args.types.now) (type_at (type_trees c.args.types.now) c.args.ty) c.kind.result.now c.in-Func.returned c.in-Func.params c.as_slice.result.now c.in-Func.variadic c.in-Func.is c.kind.ensures.tree c.as_slice.ensures (grind arith) c.kind.ensures.nesting)
