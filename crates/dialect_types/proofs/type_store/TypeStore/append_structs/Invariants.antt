-- What the loop of `type_store::TypeStore::append_structs` keeps.
use Rattle.std.proofs.Common.{◌≡◌, ◌++◌, take}
use Rattle.std.specs.List.{filter_map, flat_map}
use Rattle.dialect_types.specs.Trees.{type_trees, struct_of}
use Rattle.dialect_types.specs.Text.{Keeps, struct_text}
use Rattle.dialect_types.proofs.type_store.TypeStore.append_structs.Given as goal

abbrev pub invariant-loop-t : goal.invariant-loop-t
invariant-loop-t l = record {
  printed : l.out.items ≡ l.fn.out.items ++ flat_map struct_text (filter_map (struct_of (type_trees l.self)) (take l.t l.self));
  kept : Keeps l.fn.out.items l.out.items;
}
