-- What `predicates::convert_ipredicate` owes for two words that are easily taken for each other.
use Rattle.std.proofs.Common.{sym}
use Rattle.from_llvm_ir.proofs.predicates.convert_ipredicate.Goals as goal

pub returns-in-LLVMIntULT : goal.returns-in-LLVMIntULT
returns-in-LLVMIntULT c = sym c.in-LLVMIntULT.is

pub returns-in-LLVMIntSLT : goal.returns-in-LLVMIntSLT
returns-in-LLVMIntSLT c = sym c.in-LLVMIntSLT.is
