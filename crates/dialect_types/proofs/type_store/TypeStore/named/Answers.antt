-- What `type_store::TypeStore::named` owes besides what the check finds.
use Rattle.dialect_types.proofs.StoredLaws.{named_found, named_none}
use Rattle.dialect_types.proofs.type_store.TypeStore.named.Goals as goal

pub returns-clause-found : goal.returns-clause-found
returns-clause-found c = rw (← c.self.view_is) (named_found c.find.result c.self.inside.kinds c.self.inside.structs c.args.name.now c.self.invariant.numbers c.self.invariant.stored.grounded c.find.ensures.found)

pub returns-clause-none : goal.returns-clause-none
returns-clause-none c = λ none. rw (← c.self.view_is) (named_none c.self.inside.kinds c.self.inside.structs c.args.name.now c.self.invariant.numbers (c.find.ensures.none none))
