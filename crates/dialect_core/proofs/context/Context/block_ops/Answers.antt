-- What `context::Context::block_ops` owes besides what the check finds.
use Rattle.dialect_core.specs.Lists.{list_at}
use Rattle.dialect_core.proofs.WalkLemmas.{walked_none, walked_more, walked_all, walked_less, walked_there, listed_within}
use Rattle.dialect_core.proofs.context.Context.block_ops.Goals as goal

pub loop-next-preserved : goal.loop-next-preserved
loop-next-preserved c =
    let walked = rw c.in-Some.is at c.loop-next.invariant in
    rw c.in_ok-push.ensures.items
    (walked_more (record { parents = c.args.self.now.parents; lists = c.args.self.now.lists }) c.args.block c.loop-next.ops.items c.in-Some.op c.next_op-next.result c.first_op-next.ensures.apart c.first_op-next.ensures.standing walked c.next_op-next.ensures.next)

pub returns-clause-ops : goal.returns-clause-ops
returns-clause-ops c = walked_all (list_at c.args.self.now.lists c.args.block) c.loop-next.ops.items (rw c.in_default.is at c.loop-next.invariant)

pub returns-clause-within : goal.returns-clause-within
returns-clause-within c =
    let same = walked_all (list_at c.args.self.now.lists c.args.block) c.loop-next.ops.items (rw c.in_default.is at c.loop-next.invariant) in
    let listed = rw (← c.self.view_is) at same in
    let standing = rw (← c.self.view_is) at c.first_op-next.ensures.standing in
    rw (← c.self.view_is)
    (listed_within c.self.inside.lists.parents _ c.args.block (list_at c.self.inside.lists.lists c.args.block) c.loop-next.ops.items c.self.invariant.numbers.parent_each listed standing)

pub loop-next-smaller : goal.loop-next-smaller
loop-next-smaller c = walked_less (list_at c.args.self.now.lists c.args.block) c.loop-next.ops.items c.push.new.self.items c.in-Some.op (rw c.in-Some.is at c.loop-next.invariant) c.in_ok-push.ensures.items

pub loop-next-init : goal.loop-next-init
loop-next-init c = rw c.new-ops.ensures.items (walked_none (list_at c.args.self.now.lists c.args.block) c.first_op-next.result c.first_op-next.ensures.first)

pub next_op-next-requires : goal.next_op-next-requires
next_op-next-requires c =
    let walked = rw c.in-Some.is at c.loop-next.invariant in
    let seen = rw (← c.self.view_is) at walked in
    let standing = rw (← c.self.view_is) at c.first_op-next.ensures.standing in
    rw (← c.self.view_is) (walked_there c.self.inside.lists.parents _ c.args.block (list_at c.self.inside.lists.lists c.args.block) c.loop-next.ops.items c.in-Some.op c.self.invariant.numbers.parent_each seen standing)
