-- What the loop of `module::unnamed` keeps.
use Rattle.std.proofs.Common.{◌≡◌, [], map, take}
use Rattle.llvm_core.proofs.module.unnamed.Given as goal

abbrev pub invariant-loop-ty : goal.invariant-loop-ty
invariant-loop-ty l = l.names ≡ map (λ _. []) (take l._ty-index l.types)
