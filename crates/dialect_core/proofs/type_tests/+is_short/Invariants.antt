-- What the loop of `type_tests::are_short` keeps.
use Rattle.std.proofs.Common.{drop}
use Rattle.std.specs.Prelude.{◌↔◌}
use Rattle.dialect_types.specs.Trees.{type_trees}
use Rattle.const_attrs.specs.Trees.{attr_trees, attrs_data}
use Rattle.dialect_core.specs.Form.{AreShortAttrs}
use Rattle.dialect_core.proofs.type_tests.+is_short.Given as goal

-- all are translated where the rest are
abbrev pub invariant-are_short-loop-value : goal.invariant-are_short-loop-value
invariant-are_short-loop-value l = AreShortAttrs (attr_trees (type_trees l.types) (attrs_data (drop l.value-index l.values))) ↔ AreShortAttrs (attr_trees (type_trees l.types) (attrs_data l.values))
