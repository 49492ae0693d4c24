-- What `TypeTable::intern` owes besides what the check finds.
use Rattle.llvm_core.proofs.KeyLemmas.{interned_type}
use Rattle.tracing.proofs.TypeLaws.{interned_table, interned_keeps, interned_stands}
use Rattle.tracing.proofs.type_table.TypeTable.intern.Goals as goal

pub returns-clause-stands : goal.returns-clause-stands
returns-clause-stands c =
    let over = rw (← c.self.view_is) at c.requires.over in
    rw (← c.self.view_is) (interned_stands c.self.inside.kinds _ c.args.kind c.in_ok-place.place c.self.invariant.over over (interned_type _ _ _ _ c.in_ok-place.ensures.interned))

pub returns-clause-kept : goal.returns-clause-kept
returns-clause-kept c = rw (← c.self.view_is) (interned_keeps c.self.inside.kinds _ c.args.kind c.in_ok-place.place (interned_type _ _ _ _ c.in_ok-place.ensures.interned))

pub invariant_of-self-2 : goal.invariant_of-self-2
invariant_of-self-2 c =
    let over = rw (← c.self.view_is) at c.requires.over in
    let fit = rw (← c.self.view_is) at c.requires.fit in
    interned_table c.self.inside.kinds c.get.new.self c.args.kind c.in_ok-place.place c.self.invariant over fit (interned_type _ _ _ _ c.in_ok-place.ensures.interned)
