-- What the loop of `module::inserting::ints` keeps.
use Rattle.std.proofs.Common.{◌≡◌, map, take}
use Rattle.llvm_core.specs.declared.pieces.Piece.TheVariants as P
use Rattle.llvm_core.proofs.module.inserting.ints.Given as goal

abbrev pub invariant-loop-byte : goal.invariant-loop-byte
invariant-loop-byte l = l.all ≡ map (P.Int l.ty) (take l.byte-index l.bytes)
