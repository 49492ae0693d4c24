-- What `well_formed::body_fits` owes besides what the check finds.
use Rattle.dialect_core.proofs.FewLemmas.{types_within}
use Rattle.dialect_core.proofs.well_formed.body_fits.Goals as goal

pub has_few-requires-clause-types : goal.has_few-requires-clause-types
has_few-requires-clause-types c = types_within c.args.ctx.now _ c.requires.typed
