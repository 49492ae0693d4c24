-- What the loop of `module::inserting::so_many` keeps.
use Rattle.std.proofs.Common.{◌≡◌, replicate}
use Rattle.llvm_core.proofs.module.inserting.so_many.Given as goal

abbrev pub invariant-loop : goal.invariant-loop
invariant-loop l = l.all ≡ replicate l.counter l.piece
