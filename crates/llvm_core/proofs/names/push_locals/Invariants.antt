-- What the loop of `names::push_locals` keeps.
use Rattle.std.proofs.Common.{◌≡◌, ◌++◌, take}
use Rattle.std.specs.List.{flat_map}
use Rattle.llvm_core.specs.Names.{texts}
use Rattle.llvm_core.specs.Checked.{named, block_names}
use Rattle.llvm_core.proofs.names.push_locals.Given as goal

abbrev pub invariant-loop-name : goal.invariant-loop-name
invariant-loop-name l = texts l.names ≡ flat_map named (take l.name-index l.name-items)

abbrev pub invariant-loop-block : goal.invariant-loop-block
invariant-loop-block l = texts l.names ≡ texts l.initial.names ++ flat_map (block_names l.m) (take l.block-index l.block-items)
