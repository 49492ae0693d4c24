-- What `code_store::push_entry` owes after its call.
use Rattle.std.proofs.Common.{ap}
use Rattle.std.proofs.lemmas.Result.{on_ok_weaker}
use Rattle.llvm_core.specs.declared.code.LLVMInst.TheVariants.{Phi}
use Rattle.llvm_core.proofs.code_store.push_entry.Goals as goal

pub returns-clause-ok : goal.returns-clause-ok
returns-clause-ok c = rw c.in-Phi.is (on_ok_weaker c.push.result (λ pushed. ap (Phi c.in-Phi.field-0) pushed) c.push.ensures.ok)
