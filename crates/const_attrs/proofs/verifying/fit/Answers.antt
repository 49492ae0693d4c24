-- What `verifying::fit` owes besides what the check finds.
use Rattle.std.proofs.Common.{length, subst, ap, ◌∙◌}
use Rattle.dialect_types.specs.Trees.{HasPartsBelow, type_at, type_tree, type_trees}
use Rattle.dialect_types.proofs.TextLemmas.{earlier_parts, body_below}
use Rattle.const_attrs.specs.Trees.{attr_trees, attrs_data}
use Rattle.const_attrs.specs.Verified.{misfit}
use Rattle.const_attrs.proofs.TypeLaws.{named_elements}
use Rattle.const_attrs.proofs.verifying.fit.Goals as goal

pub one_of_each-requires-clause-within : goal.one_of_each-requires-clause-within
one_of_each-requires-clause-within c =
    let parts = subst (HasPartsBelow c.args.ty.0) c.in-Struct.is c.kind.ensures.parts in
    (earlier_parts c.args.ty.0 (length c.args.types.now) c.in-Struct.fields c.as_slice.result.now c.as_slice.ensures c.requires.within parts).0

pub fit_named-requires-clause-within : goal.fit_named-requires-clause-within
fit_named-requires-clause-within c = body_below c.args.ty.0 (length c.args.types.now) c.kind.result.now c.in-Named.name c.in-Named.body c.in-Named.is c.requires.within c.kind.ensures.parts

pub returns-in-Named : goal.returns-in-Named
returns-in-Named c =
    let ks = c.args.types.now in
    let same = named_elements ks c.len-count.ensures.stored.once c.args.ty.0 c.kind.result.now c.in-Named.name c.in-Named.body (type_at (type_trees ks) c.args.ty) c.kind.ensures.kind c.in-Named.is (c.kind.ensures.tree ∙ ap (type_tree (type_trees ks)) c.in-Named.is) in
    c.fit_named.ensures ∙ ap (misfit (attr_trees (type_trees ks) (attrs_data c.args.elements.now))) same
