-- What `lists::OpLists::add_op` owes besides what the check finds.
use Rattle.std.proofs.Common.{arith}
use Rattle.dialect_core.proofs.ReadLemmas.{listed_same}
use Rattle.dialect_core.proofs.LinkLemmas.{add_op_linked, add_op_parents, add_op_lists}
use Rattle.dialect_core.proofs.lists.OpLists.add_op.Goals as goal

pub invariant_of-self-2 : goal.invariant_of-self-2
invariant_of-self-2 c = rw c.in_ok-push.ensures.items (add_op_linked c.self.inside.links.items c.self.inside.ends.items c.self.invariant (omega arith))

pub returns-clause-ok : goal.returns-clause-ok
returns-clause-ok c =
    rw (← c.self.view_is, c.in_ok-push.ensures.items)
    (listed_same _ _ _ _ (add_op_parents c.self.inside.links.items) (add_op_lists c.self.inside.links.items c.self.inside.ends.items c.self.invariant))

pub invariant_of-self : goal.invariant_of-self
invariant_of-self c = rw c.in_err-push.ensures.items c.self.invariant
