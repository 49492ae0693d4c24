-- What the loop of `edges::push_block_edges` keeps.
use Rattle.std.proofs.Common.{take}
use Rattle.std.specs.List.{flat_map}
use Rattle.llvm_core.specs.Edges.{targets_at, Gains}
use Rattle.llvm_core.proofs.edges.push_block_edges.Given as goal

abbrev pub invariant-loop-inst : goal.invariant-loop-inst
invariant-loop-inst l = Gains l.initial.lists l.lists l.b.0 (flat_map (targets_at l.m) (take l.inst-index l.inst-items))
