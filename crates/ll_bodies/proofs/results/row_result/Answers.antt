-- What `results::row_result` owes besides what the check finds.
use Rattle.std.proofs.Common.{sym, ◌∙◌}
use Rattle.ll_bodies.proofs.results.row_result.Goals as goal

pub returns-clause-ty : goal.returns-clause-ty
returns-clause-ty c = c.row_gives.ensures.ty (sym c.row_fits.ensures ∙ c.if-not-row_fits.false)
