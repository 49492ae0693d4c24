-- What the loop of `module::inserting::these` keeps.
use Rattle.std.proofs.Common.{◌≡◌, map, take}
use Rattle.llvm_core.specs.declared.pieces.Piece.TheVariants as P
use Rattle.llvm_core.proofs.module.inserting.these.Given as goal

abbrev pub invariant-loop-element : goal.invariant-loop-element
invariant-loop-element l = l.all ≡ map P.There (take l.element-index l.elements)
