-- What holds in the loop of `llvm_body::slots`.
use Rattle.std.specs.Prelude.{◌≡◌, take}
use Rattle.tracing.specs.LlvmBodies.{slots_of}
use Rattle.tracing.proofs.llvm_body.slots.Given as goal

abbrev pub invariant-loop-phi : goal.invariant-loop-phi
invariant-loop-phi l = record { at : l.slots ≡ slots_of (take l.phi-index l.phis) }
