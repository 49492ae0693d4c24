-- What `run::intern` owes besides what the check finds.
use Rattle.std.proofs.Common.{refl, length}
use Rattle.support.proofs.ResultLaws.{both}
use Rattle.std.proofs.lemmas.Result.{IfOk-weaker}
use Rattle.tracing.proofs.RunLaws.{grown_keeps, grown_at}
use Rattle.tracing.proofs.run.intern.Goals as goal

pub returns-clause-at : goal.returns-clause-at
returns-clause-at c = both c.intern.result c.intern.ensures.gives c.intern.ensures.typed (λ k g typed now s here h. grown_at now _ _ refl refl refl refl (grown_keeps now.types _ _ (g now.types).more (g now.types).grown) (typed (length now.types) h.typed here) s h)

pub returns-clause-named : goal.returns-clause-named
returns-clause-named c = IfOk-weaker c.intern.result _ _ (λ k g trees. (g trees).here) c.intern.ensures.gives

pub returns-clause-kept : goal.returns-clause-kept
returns-clause-kept c = IfOk-weaker c.intern.result _ _ (λ k g trees. grown_keeps trees _ _ (g trees).more (g trees).grown) c.intern.ensures.gives
