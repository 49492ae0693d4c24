-- What `type_store::TypeStore::get` owes besides what the check finds.
use Rattle.dialect_types.proofs.StoredLaws.{whole_plain, kept_after, structs_after, tree_after}
use Rattle.dialect_types.proofs.type_store.TypeStore.get.Goals as goal

pub invariant_of-self : goal.invariant_of-self
invariant_of-self c =
    whole_plain c.add_kind.result c.self.inside.kinds _ c.args.kind c.self.inside.depths.items _ c.self.inside.structs c.self.invariant c.requires.plain
    (record {
      parts = rw c.self.view_is c.requires.parts;
      fit = rw c.self.view_is c.requires.fit;
      kept = c.add_kind.ensures.kept;
      long = c.add_kind.ensures.long;
      few = c.add_kind.ensures.few;
    })
    c.add_kind.ensures.interned c.add_kind.ensures.err c.add_kind.ensures.noted

pub returns-clause-tree : goal.returns-clause-tree
returns-clause-tree c =
    rw (← c.self.view_is)
    (tree_after c.add_kind.result c.self.inside.kinds _ c.args.kind c.self.invariant.stored.grounded (rw c.self.view_is c.requires.parts) c.add_kind.ensures.interned)

pub returns-clause-kept : goal.returns-clause-kept
returns-clause-kept c =
    rw (← c.self.view_is) (kept_after c.add_kind.result c.self.inside.kinds _ c.args.kind c.add_kind.ensures.interned c.add_kind.ensures.err)

pub returns-clause-structs : goal.returns-clause-structs
returns-clause-structs c =
    rw (← c.self.view_is)
    (structs_after c.add_kind.result c.self.inside.kinds _ c.args.kind c.self.invariant.stored.grounded c.requires.plain c.add_kind.ensures.interned c.add_kind.ensures.err)
