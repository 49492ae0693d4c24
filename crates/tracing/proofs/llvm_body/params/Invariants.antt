-- What holds in the loop of `llvm_body::params`.
use Rattle.std.specs.Prelude.{◌≡◌, map, take}
use Rattle.tracing.specs.LlvmBodies.{slots_of}
use Rattle.tracing.proofs.llvm_body.params.Given as goal

abbrev pub invariant-loop-phis : goal.invariant-loop-phis
invariant-loop-phis l = record { at : l.params ≡ map slots_of (take l.phis-index l.phis-items) }
