-- What `TermTable::intern` owes besides what the check finds.
use Rattle.tracing.proofs.TableLaws.{interned_gives, interned_grounded, interned_typed}
use Rattle.tracing.proofs.table.TermTable.intern.Goals as goal

pub returns-clause-gives : goal.returns-clause-gives
returns-clause-gives c =
    let parts = rw (← c.self.view_is) at c.requires in
    rw (← c.self.view_is) (λ trees. interned_gives trees c.self.inside.nodes _ c.args.node c.in_ok-place.place c.self.invariant parts c.in_ok-place.ensures.interned)

pub returns-clause-typed : goal.returns-clause-typed
returns-clause-typed c = rw (← c.self.view_is) (λ n typed here. interned_typed c.self.inside.nodes _ c.args.node c.in_ok-place.place n typed here c.in_ok-place.ensures.interned)

pub invariant_of-self-2 : goal.invariant_of-self-2
invariant_of-self-2 c =
    let parts = rw (← c.self.view_is) at c.requires in
    interned_grounded c.self.inside.nodes c.get.new.self c.args.node c.in_ok-place.place c.self.invariant parts c.in_ok-place.ensures.interned
