-- What `lists::OpLists::insert_behind` owes besides what the check finds.
use Rattle.std.proofs.Common.{arith}
use Rattle.dialect_core.proofs.PlaceLemmas.{insertion_after, insertion_there, insertion_linked, insertion_view, after_by, ends_by}
use Rattle.dialect_core.proofs.lists.OpLists.insert_behind.Goals as goal

pub set_prev-requires : goal.set_prev-requires
set_prev-requires c =
    let block = rw (← c.self.view_is) at c.requires.block in
    let free = rw (← c.self.view_is) at c.requires.free in
    let before = rw (← c.self.view_is) at c.requires.before in
    let after = after_by c.as_slice.result.now c.self.inside.links.items c.index-ends.result.now c.args.before c.behind-after.result c.behind-after.ensures c.as_slice.ensures.value in
    insertion_after c.self.inside.links.items c.set_next.new.links.items c.self.inside.ends.items c.args.block c.index-ends.result.now c.args.op c.args.before c.behind-after.result c.self.invariant block c.index-ends.ensures free before after c.set_next.ensures

pub index_mut-requires : goal.index_mut-requires
index_mut-requires c =
    let block = rw (← c.self.view_is) at c.requires.block in
    let free = rw (← c.self.view_is) at c.requires.free in
    let before = rw (← c.self.view_is) at c.requires.before in
    let after = after_by c.as_slice.result.now c.self.inside.links.items c.index-ends.result.now c.args.before c.behind-after.result c.behind-after.ensures c.as_slice.ensures.value in
    let there = insertion_there c.self.inside.links.items c.set_next.new.links.items c.self.inside.ends.items c.args.block c.index-ends.result.now c.args.op c.args.before c.behind-after.result c.self.invariant block c.index-ends.ensures free before after c.set_next.ensures c.set_prev.new.links.items c.set_prev.ensures in
    omega arith

pub invariant_of-self : goal.invariant_of-self
invariant_of-self c =
    let block = rw (← c.self.view_is) at c.requires.block in
    let free = rw (← c.self.view_is) at c.requires.free in
    let before = rw (← c.self.view_is) at c.requires.before in
    let after = after_by c.as_slice.result.now c.self.inside.links.items c.index-ends.result.now c.args.before c.behind-after.result c.behind-after.ensures c.as_slice.ensures.value in
    let ends = ends_by c.first_end.result c.last_end.result c.ends_of.result _ _ c.first_end.ensures c.last_end.ensures c.ends_of.ensures in
    insertion_linked c.self.inside.links.items c.set_next.new.links.items c.self.inside.ends.items c.args.block c.index-ends.result.now c.args.op c.args.before c.behind-after.result c.self.invariant block c.index-ends.ensures free before after c.set_next.ensures c.set_prev.new.links.items c.set_prev.ensures c.ends_of.result ends

pub returns : goal.returns
returns c =
    let block = rw (← c.self.view_is) at c.requires.block in
    let free = rw (← c.self.view_is) at c.requires.free in
    let before = rw (← c.self.view_is) at c.requires.before in
    let after = after_by c.as_slice.result.now c.self.inside.links.items c.index-ends.result.now c.args.before c.behind-after.result c.behind-after.ensures c.as_slice.ensures.value in
    let ends = ends_by c.first_end.result c.last_end.result c.ends_of.result _ _ c.first_end.ensures c.last_end.ensures c.ends_of.ensures in
    rw (← c.self.view_is)
    (insertion_view c.self.inside.links.items c.set_next.new.links.items c.self.inside.ends.items c.args.block c.index-ends.result.now c.args.op c.args.before c.behind-after.result c.self.invariant block c.index-ends.ensures free before after c.set_next.ensures c.set_prev.new.links.items c.set_prev.ensures c.ends_of.result ends)
