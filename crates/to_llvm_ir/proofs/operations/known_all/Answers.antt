-- What is found for one operand or two is what they use.
use Rattle.to_llvm_ir.proofs.LeadLaws.{operands_found}
use Rattle.to_llvm_ir.proofs.operations.known_all.Goals as goal

pub returns-in-Some-clause-ok : goal.returns-in-Some-clause-ok
returns-in-Some-clause-ok c = λ s op m next are. operands_found c.args.ctx.now op s c.args.values.now m c.args.operands.now c.in-Some.stand next are c.in-Some.ensures
