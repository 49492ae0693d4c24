-- What `lists::OpLists::next` owes besides what the check finds.
use Rattle.dialect_core.proofs.ReadLemmas.{read_next, read_within}
use Rattle.dialect_core.proofs.lists.OpLists.next.Goals as goal

pub returns-clause-next : goal.returns-clause-next
returns-clause-next c =
    let there = rw (← c.self.view_is) at c.requires in
    rw (← c.self.view_is) (read_next c.self.inside.links.items c.self.inside.ends.items c.args.op c.index.result.now c.self.invariant there c.index.ensures)

pub returns-clause-within : goal.returns-clause-within
returns-clause-within c =
    let there = rw (← c.self.view_is) at c.requires in
    rw (← c.self.view_is) (read_within c.self.inside.links.items c.self.inside.ends.items c.args.op c.index.result.now c.self.invariant there c.index.ensures)
