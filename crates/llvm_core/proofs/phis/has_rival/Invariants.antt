-- What the loop of `phis::has_rival` keeps.
use Rattle.std.proofs.Common.{◌≡◌, ◌<◌, ℕ, Some, slice_get}
use Rattle.llvm_core.specs.declared.code.PhiEntry.{PhiEntry}
use Rattle.llvm_core.proofs.phis.has_rival.Given as goal

abbrev pub invariant-loop-other : goal.invariant-loop-other
invariant-loop-other l = (j : ℕ) (y : PhiEntry) → j < l.other-index → slice_get l.entries j ≡ Some y → l.entry.block ≡ y.block → l.entry.value ≡ y.value
