-- How the reading of a constant ends: each part has less room. What was read of a list so far.
use Rattle.std.proofs.Common.{◌+◌, ◌*◌, length}
use Rattle.dialect_types.specs.Trees.{structs_of, type_trees}
use Rattle.const_attrs.specs.Trees.{attrs_data, attr_trees, HaveTypesBelow}
use Rattle.dialect_parsing.specs.Spelling.{Grows}
use Rattle.dialect_parsing.proofs.ConstantListLaws.{AreAttrsSoFar}
use Rattle.dialect_parsing.proofs.constants.+read_constant.Given as goal

abbrev pub decreases-read_constant : goal.decreases-read_constant
decreases-read_constant l = 3 * l.room

abbrev pub decreases-elements : goal.decreases-elements
decreases-elements l = 3 * l.room + 1

abbrev pub decreases-aggregate : goal.decreases-aggregate
decreases-aggregate l = 3 * l.room + 2

abbrev pub decreases-splat : goal.decreases-splat
decreases-splat l = 3 * l.room + 1

abbrev pub invariant-elements-loop-alloc : goal.invariant-elements-loop-alloc
invariant-elements-loop-alloc l = record {
  so : AreAttrsSoFar (structs_of l.fn.types) l.room l.fn.symbols (attr_trees (type_trees l.types) (attrs_data l.found.items)) l.symbols;
  below : HaveTypesBelow (length l.types) (attrs_data l.found.items);
  grows : Grows l.fn.types l.types;
}

abbrev pub decreases-elements-loop-alloc : goal.decreases-elements-loop-alloc
decreases-elements-loop-alloc l = length l.symbols
