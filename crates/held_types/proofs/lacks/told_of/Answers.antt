-- What `lacks::told_of` owes besides what the check finds.
use Rattle.std.proofs.Common.{None}
use Rattle.held_types.proofs.LackLaws.{told_at}
use Rattle.held_types.proofs.lacks.told_of.Goals as goal

pub returns : goal.returns
returns c = told_at c.args.m.now c.args.told.now c.args.c None c.requires.told c.requires.there
