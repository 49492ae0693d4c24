-- The edges so far have their entries, and fit their targets.
use Rattle.std.proofs.Common.{All, take}
use Rattle.dialect_core.specs.Form.{FitsTarget}
use Rattle.to_llvm_ir.specs.Links.{Given, IsOpLinked}
use Rattle.to_llvm_ir.specs.States.{Spot, IsLinking}
use Rattle.to_llvm_ir.proofs.LinkedLaws.{more}
use Rattle.to_llvm_ir.proofs.edges.link_edges.Given as goal

abbrev pub invariant-loop-edge : goal.invariant-loop-edge
invariant-loop-edge l = record {
  state : (s : Spot) (given : Given) → IsOpLinked l.ctx l.fn.op s l.from l.blocks given l.values l.fn.back → IsLinking s.task (more s.task given l.from.block.0 (take l.edge-index s.op.successors)) l.values l.back;
  fits : (s : Spot) (given : Given) → IsOpLinked l.ctx l.fn.op s l.from l.blocks given l.values l.fn.back → All (FitsTarget s.task.source) (take l.edge-index s.op.successors);
}
