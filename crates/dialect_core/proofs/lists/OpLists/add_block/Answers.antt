-- What `lists::OpLists::add_block` owes besides what the check finds.
use Rattle.std.proofs.Common.{refl, arith}
use Rattle.dialect_core.proofs.ReadLemmas.{listed_same}
use Rattle.dialect_core.proofs.LinkLemmas.{add_block_linked, add_block_lists}
use Rattle.dialect_core.proofs.lists.OpLists.add_block.Goals as goal

pub invariant_of-self-2 : goal.invariant_of-self-2
invariant_of-self-2 c = rw c.in_ok-append_both.ensures.items (add_block_linked c.self.inside.links.items c.self.inside.ends.items c.self.invariant (omega arith))

pub returns-clause-ok : goal.returns-clause-ok
returns-clause-ok c =
    rw (← c.self.view_is, c.in_ok-append_both.ensures.items)
    (listed_same _ _ _ _ refl (add_block_lists c.self.inside.links.items c.self.inside.ends.items))

pub invariant_of-self : goal.invariant_of-self
invariant_of-self c = rw c.in_err-append_both.ensures.items_err c.self.invariant
