-- What holds in the loop of `llvm_body::taken`.
use Rattle.std.specs.Prelude.{◌≡◌, take}
use Rattle.tracing.specs.LlvmBodies.{taken_from}
use Rattle.tracing.proofs.llvm_body.taken.Given as goal

abbrev pub invariant-loop-phi : goal.invariant-loop-phi
invariant-loop-phi l = record { at : l.sources ≡ taken_from l.from (take l.phi-index l.phis) }
