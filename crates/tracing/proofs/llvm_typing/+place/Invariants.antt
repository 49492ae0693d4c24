-- What holds in the loop of `llvm_typing::parts`, and why the conversion of a type ends: its parts are earlier ones.
use Rattle.std.specs.Prelude.{◌+◌, ◌*◌, map, take}
use Rattle.llvm_core.specs.Data.{type_at, trees_of}
use Rattle.tracing.specs.Types.{AllStand}
use Rattle.tracing.specs.TypePlaces.{trees_in, IsGrown}
use Rattle.tracing.proofs.llvm_typing.+place.Given as goal

abbrev pub decreases-place : goal.decreases-place
decreases-place l = 3 * l.ty.0 + 2

abbrev pub decreases-placed_kind : goal.decreases-placed_kind
decreases-placed_kind l = 3 * l.ty.0 + 1

abbrev pub decreases-parts : goal.decreases-parts
decreases-parts l = 3 * l.whole.0

abbrev pub invariant-parts-loop-part : goal.invariant-parts-loop-part
invariant-parts-loop-part l = record {
  grown : IsGrown (trees_of l.m).types l.fn.types l.types;
  stand : AllStand (trees_in l.types) l.places (map (type_at (trees_of l.m).types) (take l.part-index l.parts));
}
