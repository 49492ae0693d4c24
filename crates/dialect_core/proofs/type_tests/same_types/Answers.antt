-- What `type_tests::same_types` owes besides what the check finds.
use Rattle.std.proofs.Common.{arith}
use Rattle.dialect_types.specs.Trees.{type_at, type_trees}
use Rattle.dialect_core.proofs.TestLemmas.{never, always, no_true}
use Rattle.dialect_core.proofs.TypeTestLemmas.{map_same_at, map_same_from}
use Rattle.dialect_core.proofs.type_tests.same_types.Goals as goal

pub returns-then-not-same_type : goal.returns-then-not-same_type
returns-then-not-same_type c =
    never (λ same. no_true (c.if-not-same_type.ensures.1 (map_same_at (type_at (type_trees c.args.types.now)) c.args.xs.now c.args.ys.now c.loop-i.i _ same (omega arith))))

pub returns : goal.returns
returns c = always (map_same_from (type_at (type_trees c.args.types.now)) c.args.xs.now c.args.ys.now (grind arith) (λ k d l. c.loop-i.invariant k d (omega arith)))
