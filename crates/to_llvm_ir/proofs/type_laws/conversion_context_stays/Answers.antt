-- What `type_laws::conversion_context_stays` owes.
use Rattle.to_llvm_ir.proofs.MeantLaws.{context_stays}
use Rattle.to_llvm_ir.proofs.type_laws.conversion_context_stays.Goals as goal

pub returns : goal.returns
returns c = context_stays
