-- What `llvm_body::body_over` owes besides what the check finds.
use Rattle.tracing.specs.LlvmBodies.{data_in}
use Rattle.tracing.proofs.GrowLaws.{same_kept}
use Rattle.tracing.proofs.IndexLaws.{start_is}
use Rattle.tracing.proofs.llvm_body.body_over.Goals as goal

pub returns-clause-code : goal.returns-clause-code
returns-clause-code c = λ h is index. rw (c.in_ok-params.ensures, c.into_table.ensures) (c.in_ok-blocks.ensures.are h is index _ (same_kept _)).0

pub returns-clause-known : goal.returns-clause-known
returns-clause-known c = λ h is index. rw c.into_table.ensures (c.in_ok-blocks.ensures.are h is index _ (same_kept _)).1

pub returns-clause-typed : goal.returns-clause-typed
returns-clause-typed c = rw c.into_table.ensures c.in_ok-blocks.ensures.grown.tables.typed

pub returns-clause-start : goal.returns-clause-start
returns-clause-start c = λ h is count. start_is (data_in c.args.m.now h) c.args.f.0 c.args.inputs is count
