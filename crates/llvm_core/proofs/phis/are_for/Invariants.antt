-- What the loop of `phis::are_for` keeps.
use Rattle.std.proofs.Common.{◌≡◌, ◌<◌, ℕ, Some, slice_get}
use Rattle.llvm_core.specs.declared.code.PhiEntry.{PhiEntry}
use Rattle.llvm_core.proofs.phis.are_for.Given as goal

abbrev pub invariant-loop-place : goal.invariant-loop-place
invariant-loop-place l = (k : ℕ) (e : PhiEntry) → k < l.place → slice_get l.entries k ≡ Some e → slice_get l.from k ≡ Some e.block.0
