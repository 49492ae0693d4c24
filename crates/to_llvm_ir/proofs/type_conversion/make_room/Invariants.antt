-- What was given stays, and each round makes a place.
use Rattle.std.proofs.Common.{◌≡◌, ◌-◌, vec_len}
use Rattle.dialect_types.specs.declared.types.TypeHandle.{TypeHandle}
use Rattle.to_llvm_ir.specs.Conversion.{given_at}
use Rattle.to_llvm_ir.proofs.type_conversion.make_room.Given as goal

abbrev pub invariant-loop-tcctx : goal.invariant-loop-tcctx
invariant-loop-tcctx l = (t : TypeHandle) → given_at l.tcctx t ≡ given_at l.fn.tcctx t

abbrev pub decreases-loop-tcctx : goal.decreases-loop-tcctx
decreases-loop-tcctx l = l.count - vec_len l.tcctx.given
