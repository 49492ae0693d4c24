-- What the loop of `names::push_block` keeps.
use Rattle.std.proofs.Common.{◌≡◌, ◌++◌, take}
use Rattle.std.specs.List.{flat_map}
use Rattle.llvm_core.specs.Names.{texts}
use Rattle.llvm_core.specs.Checked.{inst_names}
use Rattle.llvm_core.proofs.names.push_block.Given as goal

abbrev pub invariant-loop-inst : goal.invariant-loop-inst
invariant-loop-inst l = texts l.names ≡ texts l.initial.names ++ flat_map (inst_names l.m) (take l.inst-index l.inst-items)
