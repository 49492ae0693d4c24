-- What `type_laws::given_structs_are_meant` owes.
use Rattle.to_llvm_ir.proofs.MeantLaws.{given_meant}
use Rattle.to_llvm_ir.proofs.type_laws.given_structs_are_meant.Goals as goal

pub returns : goal.returns
returns c = given_meant
