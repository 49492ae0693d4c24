-- What `llvm_body::llvm_body` owes besides what the check finds.
use Rattle.std.proofs.lemmas.Result.{IfOk-weaker}
use Rattle.tracing.proofs.llvm_body.llvm_body.Goals as goal

pub index_of-requires-clause-tables : goal.index_of-requires-clause-tables
index_of-requires-clause-tables c = c.new-tables.ensures _

pub returns-clause-code : goal.returns-clause-code
returns-clause-code c = IfOk-weaker c.body_over.result _ _ (λ body code h is. code h is (c.in_ok-index.ensures.is h is)) c.body_over.ensures.code

pub returns-clause-start : goal.returns-clause-start
returns-clause-start c = IfOk-weaker c.body_over.result _ _ (λ body start h is. start h is (c.in_ok-inputs.ensures h is)) c.body_over.ensures.start

pub returns-clause-known : goal.returns-clause-known
returns-clause-known c = IfOk-weaker c.body_over.result _ _ (λ body known h is. known h is (c.in_ok-index.ensures.is h is)) c.body_over.ensures.known
