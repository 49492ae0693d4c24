-- What `llvm_rows::source` owes besides what the check finds.
use Rattle.tracing.proofs.GrowLaws.{held_source}
use Rattle.tracing.proofs.llvm_rows.source.Goals as goal

pub returns-in_ok-place-in-Const-clause-is : goal.returns-in_ok-place-in-Const-clause-is
returns-in_ok-place-in-Const-clause-is c = rw c.in-Const.is (held_source _ c.in_ok-place-in-Const.place _ c.in_ok-place-in-Const.ensures.stands)
