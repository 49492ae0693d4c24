-- What the loop of `checking::note_function_names` keeps.
use Rattle.std.proofs.Common.{◌≡◌, ◌<◌, ℕ}
use Rattle.llvm_core.specs.Checked.{IsFreshName, names_before}
use Rattle.llvm_core.proofs.checking.note_function_names.Given as goal

abbrev pub invariant-loop-f : goal.invariant-loop-f
invariant-loop-f l = record {
  seen : l.seen ≡ names_before l.m l.f;
  fresh : (k : ℕ) → k < l.f → IsFreshName l.m k;
}
