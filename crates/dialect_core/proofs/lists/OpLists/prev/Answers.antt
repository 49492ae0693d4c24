-- What `lists::OpLists::prev` owes besides what the check finds.
use Rattle.dialect_core.proofs.ReadLemmas.{read_prev, read_prev_within}
use Rattle.dialect_core.proofs.lists.OpLists.prev.Goals as goal

pub returns-clause-prev : goal.returns-clause-prev
returns-clause-prev c =
    let there = rw (← c.self.view_is) at c.requires in
    rw (← c.self.view_is) (read_prev c.self.inside.links.items c.self.inside.ends.items c.args.op c.index.result.now c.self.invariant there c.index.ensures)

pub returns-clause-within : goal.returns-clause-within
returns-clause-within c =
    let there = rw (← c.self.view_is) at c.requires in
    rw (← c.self.view_is) (read_prev_within c.self.inside.links.items c.self.inside.ends.items c.args.op c.index.result.now c.self.invariant there c.index.ensures)
