-- What `lists::OpLists::len` owes besides what the check finds.
use Rattle.dialect_core.proofs.ReadLemmas.{all_listed, all_apart}
use Rattle.dialect_core.proofs.lists.OpLists.len.Goals as goal

pub returns-clause-listed : goal.returns-clause-listed
returns-clause-listed c = rw (← c.self.view_is) (all_listed c.self.inside.links.items c.self.inside.ends.items c.self.invariant)

pub returns-clause-apart : goal.returns-clause-apart
returns-clause-apart c = rw (← c.self.view_is) (all_apart c.self.inside.links.items c.self.inside.ends.items c.self.invariant)
