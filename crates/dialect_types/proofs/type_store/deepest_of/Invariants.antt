-- What the loop of `type_store::deepest_of` keeps.
use Rattle.std.proofs.Common.{◌≤◌}
use Rattle.kinds.specs.Held.{deepest}
use Rattle.dialect_types.proofs.DepthLaws.{AreCovered}
use Rattle.dialect_types.proofs.type_store.deepest_of.Given as goal

abbrev pub invariant-loop-ty : goal.invariant-loop-ty
invariant-loop-ty l = record {
  few : l.deepest ≤ deepest;
  covered : AreCovered l.types l.depths l.ty-index l.deepest;
}
