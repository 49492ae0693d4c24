-- What the loop of `names::stands` keeps.
use Rattle.std.proofs.Common.{◌≢◌, ◌<◌, ℕ, Some, slice_get}
use Rattle.llvm_core.specs.Names.{texts}
use Rattle.llvm_core.proofs.names.stands.Given as goal

abbrev pub invariant-loop-other : goal.invariant-loop-other
invariant-loop-other l = (j : ℕ) → j < l.other-index → slice_get (texts l.names) j ≢ Some l.name
