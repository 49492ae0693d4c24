-- What the loop of `module::forming::are_zero` keeps.
use Rattle.std.proofs.Common.{◌≡◌, take, true}
use Rattle.std.specs.List.{list_all}
use Rattle.llvm_core.specs.Consts.{is_zero}
use Rattle.llvm_core.proofs.module.forming.are_zero.Given as goal

abbrev pub invariant-loop-byte : goal.invariant-loop-byte
invariant-loop-byte l = list_all is_zero (take l.byte-index l.bytes) ≡ true
