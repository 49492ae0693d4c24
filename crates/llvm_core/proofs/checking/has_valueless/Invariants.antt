-- What the loop of `checking::has_valueless` keeps.
use Rattle.std.proofs.Common.{◌≡◌, take, false}
use Rattle.std.specs.List.{list_any}
use Rattle.llvm_core.specs.Parts.{is_kind}
use Rattle.llvm_core.specs.Checked.{is_valueless}
use Rattle.llvm_core.proofs.checking.has_valueless.Given as goal

abbrev pub invariant-loop-param : goal.invariant-loop-param
invariant-loop-param l = list_any (is_kind is_valueless l.m.types) (take l.param-index l.params) ≡ false
