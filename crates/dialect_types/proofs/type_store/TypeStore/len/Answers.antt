-- What `type_store::TypeStore::len` owes besides what the check finds.
use Rattle.dialect_types.proofs.KeyLemmas.{distinct_kinds}
use Rattle.dialect_types.proofs.TreeLemmas.{trees_distinct}
use Rattle.dialect_types.proofs.type_store.TypeStore.len.Goals as goal

pub returns-clause-distinct : goal.returns-clause-distinct
returns-clause-distinct c = rw (← c.self.view_is) (trees_distinct c.self.inside.kinds c.self.invariant.stored.grounded c.self.invariant.stored.once (distinct_kinds c.self.inside.kinds c.len.ensures.distinct))
