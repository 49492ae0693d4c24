-- What `type_store::TypeStore::kind` owes besides what the check finds.
use Rattle.dialect_types.proofs.StoredLaws.{stored_shallow, stored_nested, stored_first_class, stored_held}
use Rattle.dialect_types.proofs.TreeLemmas.{tree_of_kind}
use Rattle.dialect_types.proofs.type_store.TypeStore.kind.Goals as goal

pub returns-clause-tree : goal.returns-clause-tree
returns-clause-tree c =
    rw (← c.self.view_is) (tree_of_kind c.self.inside.kinds c.self.invariant.stored.grounded c.args.ty c.value.result.now c.value.ensures)

pub returns-clause-nesting : goal.returns-clause-nesting
returns-clause-nesting c = rw (← c.self.view_is) (stored_shallow c.self.inside.kinds c.self.invariant.stored c.args.ty (rw c.self.view_is c.requires))

pub returns-clause-nested : goal.returns-clause-nested
returns-clause-nested c = rw (← c.self.view_is) (stored_nested c.self.inside.kinds c.self.invariant.stored c.args.ty (rw c.self.view_is c.requires))

pub returns-clause-first_class : goal.returns-clause-first_class
returns-clause-first_class c = rw (← c.self.view_is) (stored_first_class c.self.inside.kinds c.self.invariant.stored c.args.ty (rw c.self.view_is c.requires))

pub returns-clause-held : goal.returns-clause-held
returns-clause-held c = rw (← c.self.view_is) (stored_held c.self.inside.kinds c.self.invariant.stored c.args.ty (rw c.self.view_is c.requires))
