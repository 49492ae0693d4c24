-- What `definitions::define_param` owes besides what the check finds.
use Rattle.std.proofs.lemmas.Result.{on_ok_weaker}
use Rattle.ll_bodies.specs.SourceViews.{types_in}
use Rattle.ll_bodies.proofs.definitions.define_param.Goals as goal

pub returns-clause-ok : goal.returns-clause-ok
returns-clause-ok c = on_ok_weaker c.define_local.result (λ h. h (types_in c.args.source.now)) c.define_local.ensures.ok

pub returns-clause-not_yet : goal.returns-clause-not_yet
returns-clause-not_yet c = λ e. c.define_local.ensures.not_yet e (types_in c.args.source.now)
