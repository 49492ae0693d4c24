-- What the loop of `module::inserting::of_each` keeps.
use Rattle.std.proofs.Common.{◌≡◌, map, take}
use Rattle.llvm_core.specs.declared.pieces.Piece.TheVariants as P
use Rattle.llvm_core.proofs.module.inserting.of_each.Given as goal

abbrev pub invariant-loop-ty : goal.invariant-loop-ty
invariant-loop-ty l = l.all ≡ map (P.Filled l.fill) (take l.ty-index l.types)
