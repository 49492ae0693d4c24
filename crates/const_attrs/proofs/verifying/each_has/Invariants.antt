-- What the loop of `verifying::each_has` keeps.
use Rattle.std.proofs.Common.{◌≡◌, drop}
use Rattle.dialect_types.specs.Trees.{types_at, type_trees}
use Rattle.const_attrs.specs.Trees.{attr_trees, attrs_data}
use Rattle.const_attrs.specs.Verified.{each_has}
use Rattle.const_attrs.proofs.verifying.each_has.Given as goal

-- each has the one at its place where each of the rest has
abbrev pub invariant-loop-i : goal.invariant-loop-i
invariant-loop-i l =
    each_has (attr_trees (type_trees l.types) (attrs_data l.elements)) (types_at (type_trees l.types) l.tys) ≡ each_has (attr_trees (type_trees l.types) (attrs_data (drop l.i l.elements))) (types_at (type_trees l.types) (drop l.i l.tys))
