-- What `lists::OpLists::remove` owes besides what the check finds.
use Rattle.std.proofs.Common.{arith}
use Rattle.dialect_core.proofs.ReadLemmas.{all_apart}
use Rattle.dialect_core.proofs.PlaceLemmas.{ends_by, stands_in, never_none, list_of_link, removal_prev, removal_next, removal_there, removal_block, removal_linked, removal_view, removed_from}
use Rattle.dialect_core.proofs.lists.OpLists.remove.Goals as goal

pub set_next-requires : goal.set_next-requires
set_next-requires c =
    let stands = rw (← c.self.view_is) at c.requires in
    let at = stands_in c.self.inside.links.items c.args.op c.index-link.result.now c.in-Some.block c.index-link.ensures c.in-Some.is stands in
    removal_prev c.self.inside.links.items c.self.inside.ends.items c.in-Some.block c.args.op c.index-link.result.now c.self.invariant c.index-link.ensures at c.index-ends.result.now c.index-ends.ensures

pub set_prev-requires : goal.set_prev-requires
set_prev-requires c =
    let stands = rw (← c.self.view_is) at c.requires in
    let at = stands_in c.self.inside.links.items c.args.op c.index-link.result.now c.in-Some.block c.index-link.ensures c.in-Some.is stands in
    removal_next c.self.inside.links.items c.self.inside.ends.items c.in-Some.block c.args.op c.index-link.result.now c.self.invariant c.index-link.ensures at c.index-ends.result.now c.index-ends.ensures c.set_next.new.links.items c.set_next.ensures

pub index_mut-requires : goal.index_mut-requires
index_mut-requires c =
    let stands = rw (← c.self.view_is) at c.requires in
    let at = stands_in c.self.inside.links.items c.args.op c.index-link.result.now c.in-Some.block c.index-link.ensures c.in-Some.is stands in
    let there = removal_there c.self.inside.links.items c.self.inside.ends.items c.in-Some.block c.args.op c.index-link.result.now c.self.invariant c.index-link.ensures at c.index-ends.result.now c.index-ends.ensures c.set_next.new.links.items c.set_next.ensures c.set_prev.new.links.items c.set_prev.ensures in
    omega arith

pub index_mut-requires-in-Some : goal.index_mut-requires-in-Some
index_mut-requires-in-Some c =
    let stands = rw (← c.self.view_is) at c.requires in
    let at = stands_in c.self.inside.links.items c.args.op c.index-link.result.now c.in-Some.block c.index-link.ensures c.in-Some.is stands in
    let there = removal_block c.self.inside.links.items c.self.inside.ends.items c.args.op c.in-Some.block c.self.invariant at in
    omega arith

pub invariant_of-self : goal.invariant_of-self
invariant_of-self c =
    let stands = rw (← c.self.view_is) at c.requires in
    let at = stands_in c.self.inside.links.items c.args.op c.index-link.result.now c.in-Some.block c.index-link.ensures c.in-Some.is stands in
    let ends = ends_by c.first_end.result c.last_end.result c.ends_of.result _ _ c.first_end.ensures c.last_end.ensures c.ends_of.ensures in
    removal_linked c.self.inside.links.items c.self.inside.ends.items c.in-Some.block c.args.op c.index-link.result.now c.self.invariant c.index-link.ensures at c.index-ends.result.now c.index-ends.ensures c.set_next.new.links.items c.set_next.ensures c.set_prev.new.links.items c.set_prev.ensures c.ends_of.result ends

pub unreachable-requires : goal.unreachable-requires
unreachable-requires c =
    let stands = rw (← c.self.view_is) at c.requires in
    never_none c.self.inside.links.items c.args.op c.index-link.result.now c.index-link.ensures c.in-None.is stands

pub returns-clause-removed : goal.returns-clause-removed
returns-clause-removed c =
    let stands = rw (← c.self.view_is) at c.requires in
    let at = stands_in c.self.inside.links.items c.args.op c.index-link.result.now c.in-Some.block c.index-link.ensures c.in-Some.is stands in
    let ends = ends_by c.first_end.result c.last_end.result c.ends_of.result _ _ c.first_end.ensures c.last_end.ensures c.ends_of.ensures in
    rw (← c.self.view_is)
    (λ b is. removed_from c.self.inside.links.items c.self.inside.ends.items c.in-Some.block b c.args.op _ at is
    (removal_view c.self.inside.links.items c.self.inside.ends.items c.in-Some.block c.args.op c.index-link.result.now c.self.invariant c.index-link.ensures at c.index-ends.result.now c.index-ends.ensures c.set_next.new.links.items c.set_next.ensures c.set_prev.new.links.items c.set_prev.ensures c.ends_of.result ends))

pub returns-clause-there : goal.returns-clause-there
returns-clause-there c = rw (← c.self.view_is) (λ b is. list_of_link c.self.inside.links.items c.self.inside.ends.items c.args.op b c.self.invariant is)

pub returns-clause-apart : goal.returns-clause-apart
returns-clause-apart c = rw (← c.self.view_is) (all_apart c.self.inside.links.items c.self.inside.ends.items c.self.invariant)
