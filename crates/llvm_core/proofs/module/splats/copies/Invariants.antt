-- What the loop of `module::splats::copies` keeps.
use Rattle.std.proofs.Common.{◌≡◌, replicate}
use Rattle.llvm_core.proofs.module.splats.copies.Given as goal

abbrev pub invariant-loop : goal.invariant-loop
invariant-loop l = l.all ≡ replicate l.counter l.c
