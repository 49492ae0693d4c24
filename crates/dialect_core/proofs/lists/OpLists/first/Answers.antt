-- What `lists::OpLists::first` owes besides what the check finds.
use Rattle.dialect_core.proofs.ReadLemmas.{first_is, first_within, apart_there}
use Rattle.dialect_core.proofs.lists.OpLists.first.Goals as goal

pub returns-clause-first : goal.returns-clause-first
returns-clause-first c =
    let block = rw (← c.self.view_is) at c.requires in
    rw (← c.self.view_is, c.first_of.ensures) (first_is c.self.inside.links.items c.self.inside.ends.items c.args.block c.index.result.now c.self.invariant block c.index.ensures)

pub returns-clause-within : goal.returns-clause-within
returns-clause-within c =
    let block = rw (← c.self.view_is) at c.requires in
    rw (← c.self.view_is, c.first_of.ensures) (first_within c.self.inside.links.items c.self.inside.ends.items c.args.block c.index.result.now c.self.invariant block c.index.ensures)

pub returns-clause-apart : goal.returns-clause-apart
returns-clause-apart c =
    let block = rw (← c.self.view_is) at c.requires in
    rw (← c.self.view_is) (apart_there c.self.inside.links.items c.self.inside.ends.items c.args.block c.index.result.now c.self.invariant block c.index.ensures)
