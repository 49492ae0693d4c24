-- What the loop of `entries::edge_values` keeps.
use Rattle.llvm_core.specs.declared.numbers.LLVMFunction.{LLVMFunction}
use Rattle.llvm_core.specs.Data.{Function}
use Rattle.from_llvm_ir.specs.Source.{LeadsTo}
use Rattle.from_llvm_ir.proofs.TakenLaws.{PassedTo}
use Rattle.from_llvm_ir.proofs.entries.edge_values.Given as goal

abbrev pub invariant-loop-i : goal.invariant-loop-i
invariant-loop-i l = (f : LLVMFunction) → (g : Function) → (h : LeadsTo l.source f g l.entries l.from l.fn.to) → PassedTo l.source f g l.entries l.from l.fn.to h l.values l.i-index
