-- What `operations::given` owes besides what the check finds.
use Rattle.dialect_core.proofs.TestLemmas.{empty_is}
use Rattle.from_llvm_ir.proofs.NameLaws.{given_none, given_some, goes_same}
use Rattle.from_llvm_ir.proofs.operations.given.Goals as goal

pub returns-then-is_empty-clause-given : goal.returns-then-is_empty-clause-given
returns-then-is_empty-clause-given c = given_none c.args.names.now c.args.name.now ((empty_is c.args.name.now c.is_empty.result c.is_empty.ensures).0 c.if-is_empty.true)

pub returns-then-is_empty-clause-grows : goal.returns-then-is_empty-clause-grows
returns-then-is_empty-clause-grows c = goes_same c.args.names.now

pub returns-clause-given : goal.returns-clause-given
returns-clause-given c =
    given_some c.legalise.new.self c.args.name.now c.in_ok-identifier.identifier
    (λ e. let is = (empty_is c.args.name.now c.is_empty.result c.is_empty.ensures).1 e in cc (is, c.if-is_empty.false)) c.in_ok-identifier.ensures.given.here
