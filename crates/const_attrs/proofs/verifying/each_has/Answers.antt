-- What `verifying::each_has` owes besides what the check finds.
use Rattle.std.proofs.Common.{List, [], length, drop, false, true, ap, sym, ◌∙◌, arith}
use Rattle.std.proofs.lemmas.List.{drop_all}
use Rattle.dialect_types.specs.Trees.{types_at, type_trees}
use Rattle.dialect_types.specs.declared.types.TypeHandle.{TypeHandle}
use Rattle.const_attrs.specs.declared.const_attr.ConstAttr.{ConstAttr}
use Rattle.const_attrs.specs.Trees.{attr_trees, attrs_data}
use Rattle.const_attrs.specs.Verified.{each_has}
use Rattle.const_attrs.proofs.ListLaws.{types_at_index, each_has_more}
use Rattle.dialect_types.proofs.TextLemmas.{AllBelow-at}
use Rattle.const_attrs.proofs.verifying.each_has.Goals as goal

pub has_type-requires-clause-below : goal.has_type-requires-clause-below
has_type-requires-clause-below c = types_at_index (length c.args.types.now) c.args.elements.now c.loop-i.i c.index-elements-i.result c.requires.below c.loop-i-test.true c.index-elements-i.is

pub has_type-requires-clause-within : goal.has_type-requires-clause-within
has_type-requires-clause-within c = AllBelow-at (length c.args.types.now) c.args.tys.now c.loop-i.i (record { 0 = 0 }) c.requires.within (omega (arith, c.requires.as_many, c.loop-i-test.true))

pub returns-then-not-has_type : goal.returns-then-not-has_type
returns-then-not-has_type c =
    sym (each_has_more (type_trees c.args.types.now) c.args.elements.now c.args.tys.now c.loop-i.i c.index-elements-i.result _ false c.loop-i-test.true (omega (arith, c.requires.as_many, c.loop-i-test.true)) c.index-elements-i.is c.loop-i.invariant c.if-not-has_type.ensures)

pub loop-i-preserved : goal.loop-i-preserved
loop-i-preserved c =
    each_has_more (type_trees c.args.types.now) c.args.elements.now c.args.tys.now c.loop-i.i c.index-elements-i.result _ true c.loop-i-test.true (omega (arith, c.requires.as_many, c.loop-i-test.true)) c.index-elements-i.is c.loop-i.invariant c.if-not-has_type.ensures

pub returns : goal.returns
returns c =
    let ts = type_trees c.args.types.now in
    let i = c.loop-i.i in
    let none = drop_all i c.args.elements.now (omega arith) in
    let left = drop_all i c.args.tys.now (omega (arith, c.requires.as_many)) in
    sym (c.loop-i.invariant ∙ ap (λ (xs : List ConstAttr). each_has (attr_trees ts (attrs_data xs)) (types_at ts (drop i c.args.tys.now))) none ∙ ap (λ (us : List TypeHandle). each_has (attr_trees ts (attrs_data [])) (types_at ts us)) left)
