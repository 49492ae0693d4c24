-- What `lists::OpLists::append` owes besides what the check finds.
use Rattle.dialect_core.proofs.PlaceLemmas.{block_ends, last_stands, appended_lists}
use Rattle.dialect_core.proofs.lists.OpLists.append.Goals as goal

pub insert_behind-requires-clause-before : goal.insert_behind-requires-clause-before
insert_behind-requires-clause-before c =
    let block = rw (← c.self.view_is) at c.requires.block in
    let at = block_ends c.self.inside.links.items c.self.inside.ends.items c.args.block c.index.result.now block c.index.ensures in
    rw (← c.self.view_is, c.last_of-last.ensures) (last_stands c.self.inside.links.items c.self.inside.ends.items c.args.block c.index.result.now c.self.invariant at)

pub returns : goal.returns
returns c =
    let block = rw (← c.self.view_is) at c.requires.block in
    let at = block_ends c.self.inside.links.items c.self.inside.ends.items c.args.block c.index.result.now block c.index.ensures in
    let made = rw (← c.self.view_is) at c.insert_behind.ensures in
    rw (← c.self.view_is) (appended_lists c.self.inside.links.items c.self.inside.ends.items c.args.block c.index.result.now c.args.op c.last_of-last.result c.insert_behind.new.self c.self.invariant at c.last_of-last.ensures made)
