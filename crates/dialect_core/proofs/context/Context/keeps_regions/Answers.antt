-- What `context::Context::keeps_regions` owes besides what the check finds.
use Rattle.dialect_core.proofs.context.Context.keeps_regions.Goals as goal

pub returns : goal.returns
returns c = rw (← c.self.view_is) c.self.invariant.regions
