-- What the loop of `struct_rules::check_each` keeps.
use Rattle.std.proofs.Common.{◌≡◌, ◌<◌, ℕ}
use Rattle.llvm_core.specs.Checked.{IsCheckedStruct, struct_names_before}
use Rattle.llvm_core.proofs.struct_rules.check_each.Given as goal

abbrev pub invariant-loop-s : goal.invariant-loop-s
invariant-loop-s l = record {
  seen : l.seen ≡ struct_names_before l.m l.s;
  checked : (k : ℕ) → k < l.s → IsCheckedStruct l.m k;
}
