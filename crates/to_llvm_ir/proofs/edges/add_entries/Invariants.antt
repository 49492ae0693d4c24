-- The arguments so far have their entries.
use Rattle.std.proofs.Common.{◌++◌, take}
use Rattle.to_llvm_ir.specs.Made.{passed_to}
use Rattle.to_llvm_ir.specs.States.{Task, IsLinking}
use Rattle.to_llvm_ir.specs.Links.{Given, IsEdgeNext}
use Rattle.to_llvm_ir.proofs.edges.add_entries.Given as goal

abbrev pub invariant-loop-i : goal.invariant-loop-i
invariant-loop-i l = (t : Task) (given : Given) → IsEdgeNext t l.edge l.from given l.values l.fn.back → IsLinking t (λ v. given v ++ passed_to t.source t.numbers l.edge.block (take l.i l.edge.args) l.from.0 v) l.values l.back
