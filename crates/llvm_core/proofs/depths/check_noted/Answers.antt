-- What `depths::check_noted` owes besides what the check finds.
use Rattle.llvm_core.proofs.DepthLemmas.{none_deep}
use Rattle.llvm_core.proofs.depths.check_noted.Goals as goal

pub returns-then-not-has_deep-clause-ok : goal.returns-then-not-has_deep-clause-ok
returns-then-not-has_deep-clause-ok c = none_deep c.args.m.now (c.has_deep.ensures.none c.if-not-has_deep.true) c.in_ok-check_structs.ensures.ok
