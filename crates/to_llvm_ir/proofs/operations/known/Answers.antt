-- What is found stands for the value, and a value that is not found stands not before.
use Rattle.std.proofs.Common.{sym}
use Rattle.to_llvm_ir.proofs.UseLaws.{use_is, early_use}
use Rattle.to_llvm_ir.proofs.operations.known.Goals as goal

pub returns-in-Some-clause-ok : goal.returns-in-Some-clause-ok
returns-in-Some-clause-ok c = λ s op m type next used. use_is c.args.ctx.now s op c.args.values.now m c.args.value type c.in-Some.stands next used (sym c.in-Some.ensures)

pub returns-in_ok-given_name-in-None-clause-cause : goal.returns-in_ok-given_name-in-None-clause-cause
returns-in_ok-given_name-in-None-clause-cause c = λ s op m type next used.
    early_use c.args.ctx.now s op c.args.values.now m c.args.value type c.in_ok-given_name-in-None.field-0 next used (sym c.in-None.ensures) c.in_ok-given_name-in-None.ensures
