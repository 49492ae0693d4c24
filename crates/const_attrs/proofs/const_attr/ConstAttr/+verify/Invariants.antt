-- What the loop of `ConstAttr::verify_each` keeps.
use Rattle.std.proofs.Common.{◌≡◌, drop}
use Rattle.dialect_types.specs.Trees.{type_trees, structs_of}
use Rattle.const_attrs.specs.Trees.{attr_trees, attrs_data}
use Rattle.const_attrs.specs.Verified.{broken_in}
use Rattle.const_attrs.proofs.const_attr.ConstAttr.+verify.Given as goal

-- what all break first is what the rest breaks first
abbrev pub invariant-verify_each-loop-element : goal.invariant-verify_each-loop-element
invariant-verify_each-loop-element l =
    broken_in (structs_of l.types) (attr_trees (type_trees l.types) (attrs_data l.elements)) ≡ broken_in (structs_of l.types) (attr_trees (type_trees l.types) (attrs_data (drop l.element-index l.elements)))
