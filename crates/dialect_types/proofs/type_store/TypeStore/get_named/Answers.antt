-- What `type_store::TypeStore::get_named` owes besides what the check finds.
use Rattle.std.proofs.Common.{◌≡◌, ◌++◌, ◌∷◌, [], ℕ, List, Option, None, sym, subst, ◌∙◌}
use Rattle.std.specs.Prelude.{IfSome}
use Rattle.dialect_types.specs.declared.types.TypeHandle.{TypeHandle}
use Rattle.dialect_types.specs.declared.types.TypeKind.TheVariants.{Named}
use Rattle.dialect_types.specs.Stored.{Numbered, IsNumberOf, IsWhole}
use Rattle.dialect_types.proofs.KeyLemmas.{distinct_kinds}
use Rattle.dialect_types.proofs.StoredLaws.{fresh_name, whole_still, whole_named, found_refused, found_tree, none_left}
use Rattle.dialect_types.proofs.NamedLaws.{struct_kept, struct_put, refused_other}
use Rattle.dialect_types.proofs.TreeLemmas.{still_trees, asked_tree, trees_distinct}
use Rattle.dialect_types.proofs.type_store.TypeStore.get_named.Goals as goal

-- ---- a struct that the store holds

pub returns-in-Some-clause-tree : goal.returns-in-Some-clause-tree
returns-in-Some-clause-tree c =
    found_tree c.same_struct.result c.self.inside.kinds c.args.name c.args.body c.in-Some.ty c.self.invariant.stored.grounded c.same_struct.ensures.ok

pub returns-in-Some-clause-different : goal.returns-in-Some-clause-different
returns-in-Some-clause-different c =
    let s = c.self.inside.structs in
    let same : c.in_ok-copy.copy ≡ c.args.name = c.in_ok-copy.ensures ∙ c.as_str.ensures.text in
    let found = subst (λ (o : Option TypeHandle). IfSome o (λ (t : TypeHandle). (c.put.new.self ≡ s) × IsNumberOf s c.in_ok-copy.copy t)) c.in-Some.is c.in_ok-ty.ensures.found in
    let number = subst (λ (n : List ℕ). IsNumberOf s n c.in-Some.ty) same found.1 in
    let there = c.self.invariant.numbers.only c.args.name c.in-Some.ty number in
    rw (← c.self.view_is) (found_refused c.same_struct.result c.self.inside.kinds c.args.name c.args.body c.in-Some.ty there.0 there.1 c.same_struct.ensures.err)

pub returns-in-Some-clause-structs : goal.returns-in-Some-clause-structs
returns-in-Some-clause-structs c =
    rw (← c.self.view_is) (struct_kept c.same_struct.result c.self.inside.kinds c.args.name c.args.body c.in-Some.ty c.self.invariant.stored.once c.same_struct.ensures.ok)

pub returns-in-Some-clause-other : goal.returns-in-Some-clause-other
returns-in-Some-clause-other c =
    let s = c.self.inside.structs in
    let same : c.in_ok-copy.copy ≡ c.args.name = c.in_ok-copy.ensures ∙ c.as_str.ensures.text in
    let found = subst (λ (o : Option TypeHandle). IfSome o (λ (t : TypeHandle). (c.put.new.self ≡ s) × IsNumberOf s c.in_ok-copy.copy t)) c.in-Some.is c.in_ok-ty.ensures.found in
    let number = subst (λ (n : List ℕ). IsNumberOf s n c.in-Some.ty) same found.1 in
    let there = c.self.invariant.numbers.only c.args.name c.in-Some.ty number in
    let apart = trees_distinct c.self.inside.kinds c.self.invariant.stored.grounded c.self.invariant.stored.once (distinct_kinds c.self.inside.kinds c.len.ensures.distinct) in
    rw (← c.self.view_is)
    (refused_other c.same_struct.result c.self.inside.kinds c.args.name c.args.body c.in-Some.ty there.0 c.self.invariant.stored.grounded c.self.invariant.stored.once apart (rw c.self.view_is c.requires.parts) there.1 c.same_struct.ensures.err)

-- ---- one that is new

pub invariant_of-self-in-Ok : goal.invariant_of-self-in-Ok
invariant_of-self-in-Ok c =
    let s = c.self.inside.structs in
    let next : TypeHandle = record { 0 = c.len.result } in
    let same : c.in_ok-copy.copy ≡ c.args.name = c.in_ok-copy.ensures ∙ c.as_str.ensures.text in
    let none : c.in_ok-ty.field-0 ≡ None = none_left c.in_ok-ty.field-0 c.in_default.not-Some in
    let put = c.put.ensures.put (cc (c.in_ok-ty.was, none)) in
    let fresh = subst (λ (n : List ℕ). (t : TypeHandle) → ¬ IsNumberOf s n t) same put.1 in
    let whole =
    whole_named c.self.inside.kinds c.add_kind.new.kinds c.args.name c.args.body c.in-Ok.ty next c.self.inside.depths.items c.add_kind.new.depths.items s c.self.invariant fresh c.as_str.ensures.legal c.len.ensures.len
    (record {
      parts = rw c.self.view_is c.requires.parts;
      fit = rw c.self.view_is c.requires.fit;
      kept = c.add_kind.ensures.kept;
      long = c.add_kind.ensures.long;
      few = c.add_kind.ensures.few;
    })
    c.in-Ok.ensures.interned c.in-Ok.ensures.noted in
    let named = subst (λ (n : List ℕ). IsWhole c.add_kind.new.kinds c.add_kind.new.depths.items (record { names = s.names ++ n ∷ []; types = s.types ++ next ∷ [] })) (sym same) whole in
    subst (λ (u : Numbered). IsWhole c.add_kind.new.kinds c.add_kind.new.depths.items u) (sym put.0) named

pub invariant_of-self-in-Err : goal.invariant_of-self-in-Err
invariant_of-self-in-Err c =
    let s = c.self.inside.structs in
    let next : TypeHandle = record { 0 = c.len.result } in
    let none : c.in_ok-ty.field-0 ≡ None = none_left c.in_ok-ty.field-0 c.in_default.not-Some in
    let put = c.put.ensures.put (cc (c.in_ok-ty.was, none)) in
    let popped = c.pop.ensures c.in_ok-copy.copy next s put.0 in
    subst (λ (u : Numbered). IsWhole c.add_kind.new.kinds c.add_kind.new.depths.items u) (sym popped)
    (whole_still c.self.inside.kinds c.add_kind.new.kinds c.self.inside.depths.items c.add_kind.new.depths.items s c.self.invariant c.in-Err.ensures.err c.add_kind.ensures.kept c.add_kind.ensures.long c.add_kind.ensures.few)

pub returns-in-Ok-clause-tree : goal.returns-in-Ok-clause-tree
returns-in-Ok-clause-tree c =
    asked_tree c.self.inside.kinds c.add_kind.new.kinds (Named c.args.name c.args.body) c.in-Ok.ty c.self.invariant.stored.grounded (rw c.self.view_is c.requires.parts) c.in-Ok.ensures.interned

pub returns-in-Ok-clause-kept : goal.returns-in-Ok-clause-kept
returns-in-Ok-clause-kept c =
    rw (← c.self.view_is) (still_trees c.self.inside.kinds c.add_kind.new.kinds (Named c.args.name c.args.body) c.in-Ok.ty.0 c.in-Ok.ensures.interned)

pub returns-in-Ok-clause-structs : goal.returns-in-Ok-clause-structs
returns-in-Ok-clause-structs c =
    let s = c.self.inside.structs in
    let same : c.in_ok-copy.copy ≡ c.args.name = c.in_ok-copy.ensures ∙ c.as_str.ensures.text in
    let none : c.in_ok-ty.field-0 ≡ None = none_left c.in_ok-ty.field-0 c.in_default.not-Some in
    let put = c.put.ensures.put (cc (c.in_ok-ty.was, none)) in
    let fresh = fresh_name c.self.inside.kinds s c.args.name c.self.invariant.numbers (subst (λ (n : List ℕ). (t : TypeHandle) → ¬ IsNumberOf s n t) same put.1) in
    rw (← c.self.view_is)
    (struct_put c.self.inside.kinds c.add_kind.new.kinds c.args.name c.args.body c.in-Ok.ty.0 c.self.invariant.stored.grounded (rw c.self.view_is c.requires.parts) fresh c.in-Ok.ensures.interned)
