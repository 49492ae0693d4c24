-- What `Places::place` owes besides what the check finds.
use Rattle.std.proofs.Common.{sym, ◌∙◌, nat_eq}
use Rattle.tracing.proofs.PlaceLaws.{not_there}
use Rattle.tracing.proofs.places.Places.place.Goals as goal

pub returns-in-None : goal.returns-in-None
returns-in-None c = rw (← c.self.view_is) (c.len.ensures.len ∙ sym (not_there (nat_eq c.args.number) c.self.inside.numbers.keys (sym c.in-None.ensures.index)))
