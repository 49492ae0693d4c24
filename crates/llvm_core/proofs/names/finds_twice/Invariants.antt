-- What the loop of `names::finds_twice` keeps.
use Rattle.std.proofs.Common.{◌≡◌, take}
use Rattle.llvm_core.specs.Names.{texts, HasTwice}
use Rattle.llvm_core.proofs.names.finds_twice.Given as goal

abbrev pub invariant-loop-name : goal.invariant-loop-name
invariant-loop-name l = record {
  seen : l.seen ≡ take l.name-index (texts l.names);
  once : ¬ HasTwice (take l.name-index (texts l.names));
}
