-- The types so far are copied.
use Rattle.std.proofs.Common.{◌≡◌, take}
use Rattle.ll_bodies.proofs.structs.copied_types.Given as goal

abbrev pub invariant-loop-ty : goal.invariant-loop-ty
invariant-loop-ty l = l.copy ≡ take l.ty-index l.types
