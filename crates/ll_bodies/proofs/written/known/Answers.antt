-- What `written::known` owes besides what the check finds.
use Rattle.std.proofs.lemmas.Result.{IfOk-weaker}
use Rattle.ll_literals.specs.Names.{quoted_name}
use Rattle.ll_bodies.proofs.WrittenLaws.{quoted_held}
use Rattle.ll_bodies.proofs.written.known.Goals as goal

pub returns-in-None-clause-there : goal.returns-in-None-clause-there
returns-in-None-clause-there c = IfOk-weaker c.known_quoted.result _ _ (λ x is. quoted_held c.args.scope.now (quoted_name c.args.written.now) x is) c.known_quoted.ensures
