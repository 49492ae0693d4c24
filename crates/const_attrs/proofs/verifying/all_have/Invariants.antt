-- What the loop of `verifying::all_have` keeps.
use Rattle.std.proofs.Common.{◌≡◌, drop}
use Rattle.dialect_types.specs.Trees.{type_at, type_trees}
use Rattle.const_attrs.specs.Trees.{attr_trees, attrs_data}
use Rattle.const_attrs.specs.Verified.{all_have}
use Rattle.const_attrs.proofs.verifying.all_have.Given as goal

-- all have it where the rest has
abbrev pub invariant-loop-element : goal.invariant-loop-element
invariant-loop-element l =
    all_have (attr_trees (type_trees l.types) (attrs_data l.elements)) (type_at (type_trees l.types) l.ty) ≡ all_have (attr_trees (type_trees l.types) (attrs_data (drop l.element-index l.elements))) (type_at (type_trees l.types) l.ty)
