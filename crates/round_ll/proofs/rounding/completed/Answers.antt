-- The box holds the modules.
use Rattle.round_ll.proofs.rounding.completed.Goals as goal

pub returns-clause-ended : goal.returns-clause-ended
returns-clause-ended c = rw (c.deref.ensures, c.in_ok-transferred.ensures.ok) at c.in_ok-print_rest.ensures
