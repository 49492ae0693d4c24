-- What the cycle of `dialect_constants::constant` owes besides what the check finds.
use Rattle.std.proofs.Common.{ℕ, ◌<◌, Some, rules, length, ap, sym, ◌∙◌}
use Rattle.std.proofs.lemmas.Option.{slice_get_within}
use Rattle.std.proofs.lemmas.Result.{IfOk-weaker, on_ok_weaker}
use Rattle.kinds.specs.Held.{IsFirstClass, width_in}
use Rattle.dialect_types.specs.declared.types.TypeHandle.{TypeHandle}
use Rattle.dialect_types.specs.Trees.{type_at, type_trees}
use Rattle.const_attrs.specs.declared.const_attr.ConstAttr.{the_lemmas}
use Rattle.const_attrs.specs.Trees.{attr_data}
use Rattle.const_attrs.proofs.DataLaws.{integer_data, zero_data, undef_data, poison_data, bytes_data, aggregate_data, splat_data}
use Rattle.dialect_core.specs.ContextData.{ContextData}
use Rattle.meaning.specs.Terms.{Int}
use Rattle.meaning.specs.Constants.{lanes_term}
use Rattle.meaning.specs.Setting.{TellsNothing}
use Rattle.tracing.specs.TypePlaces.{trees_in}
use Rattle.tracing.specs.Tables.{contents_in}
use Rattle.tracing.specs.DialectBodies.{term_of}
use Rattle.tracing.proofs.ConstLaws.{attrs_terms, term_by_data, each_at_index, each_by_data}
use Rattle.tracing.proofs.GrowLaws.{term_stands}
use Rattle.tracing.proofs.RunLaws.{all_below}
use Rattle.tracing.proofs.TableLaws.{named_below}
use Rattle.tracing.proofs.TablesLaws.{grown_same, grown_then, terms_more, list_stands}
use Rattle.tracing.proofs.dialect_constants.+constant.Goals as goal

-- ---- the types of a constant

abbrev InStore : ContextData → TypeHandle → Type 0
InStore c t = t.0 < length c.types

abbrev OfValues : ContextData → TypeHandle → Type 0
OfValues c t = IsFirstClass (type_at (type_trees c.types) t)

pub constant-width_of-requires : goal.constant-width_of-requires
constant-width_of-requires t c = each_by_data (InStore c.args.ctx.now) c.args.value.now _ (ap attr_data c.in-Integer.is ∙ integer_data c.in-Integer.ty c.in-Integer.value) c.requires.within

pub constant-filled-requires-clause-within : goal.constant-filled-requires-clause-within
constant-filled-requires-clause-within t c = each_by_data (InStore c.args.ctx.now) c.args.value.now _ (ap attr_data c.in-Zero.is ∙ zero_data c.in-Zero.ty) c.requires.within

pub constant-filled-requires-in-Undef-clause-within : goal.constant-filled-requires-in-Undef-clause-within
constant-filled-requires-in-Undef-clause-within t c = each_by_data (InStore c.args.ctx.now) c.args.value.now _ (ap attr_data c.in-Undef.is ∙ undef_data c.in-Undef.ty) c.requires.within

pub constant-filled-requires-in-Poison-clause-within : goal.constant-filled-requires-in-Poison-clause-within
constant-filled-requires-in-Poison-clause-within t c = each_by_data (InStore c.args.ctx.now) c.args.value.now _ (ap attr_data c.in-Poison.is ∙ poison_data c.in-Poison.ty) c.requires.within

pub constant-type_place-requires-clause-within : goal.constant-type_place-requires-clause-within
constant-type_place-requires-clause-within t c = (each_by_data (InStore c.args.ctx.now) c.args.value.now _ (ap attr_data c.in-Aggregate.is ∙ aggregate_data c.in-Aggregate.elements c.in-Aggregate.ty) c.requires.within).1

pub constant-type_place-requires-in-Splat-clause-within : goal.constant-type_place-requires-in-Splat-clause-within
constant-type_place-requires-in-Splat-clause-within t c = (each_by_data (InStore c.args.ctx.now) c.args.value.now _ (ap attr_data c.in-Splat.is ∙ splat_data c.in-Splat.element c.in-Splat.ty) c.requires.within).1

pub constant-lanes-requires-clause-within : goal.constant-lanes-requires-clause-within
constant-lanes-requires-clause-within t c = (each_by_data (InStore c.args.ctx.now) c.args.value.now _ (ap attr_data c.in-Splat.is ∙ splat_data c.in-Splat.element c.in-Splat.ty) c.requires.within).1

pub constant-filled-requires-clause-first_class : goal.constant-filled-requires-clause-first_class
constant-filled-requires-clause-first_class t c = each_by_data (OfValues c.args.ctx.now) c.args.value.now _ (ap attr_data c.in-Zero.is ∙ zero_data c.in-Zero.ty) c.requires.first_class

pub constant-filled-requires-in-Undef-clause-first_class : goal.constant-filled-requires-in-Undef-clause-first_class
constant-filled-requires-in-Undef-clause-first_class t c = each_by_data (OfValues c.args.ctx.now) c.args.value.now _ (ap attr_data c.in-Undef.is ∙ undef_data c.in-Undef.ty) c.requires.first_class

pub constant-filled-requires-in-Poison-clause-first_class : goal.constant-filled-requires-in-Poison-clause-first_class
constant-filled-requires-in-Poison-clause-first_class t c = each_by_data (OfValues c.args.ctx.now) c.args.value.now _ (ap attr_data c.in-Poison.is ∙ poison_data c.in-Poison.ty) c.requires.first_class

pub constant-type_place-requires-clause-first_class : goal.constant-type_place-requires-clause-first_class
constant-type_place-requires-clause-first_class t c = (each_by_data (OfValues c.args.ctx.now) c.args.value.now _ (ap attr_data c.in-Aggregate.is ∙ aggregate_data c.in-Aggregate.elements c.in-Aggregate.ty) c.requires.first_class).1

pub constant-type_place-requires-in-Splat-clause-first_class : goal.constant-type_place-requires-in-Splat-clause-first_class
constant-type_place-requires-in-Splat-clause-first_class t c = (each_by_data (OfValues c.args.ctx.now) c.args.value.now _ (ap attr_data c.in-Splat.is ∙ splat_data c.in-Splat.element c.in-Splat.ty) c.requires.first_class).1

pub constant-parts-requires : goal.constant-parts-requires
constant-parts-requires t c =
    let below = (each_by_data (InStore c.args.ctx.now) c.args.value.now _ (ap attr_data c.in-Aggregate.is ∙ aggregate_data c.in-Aggregate.elements c.in-Aggregate.ty) c.requires.within).0 in
    let first = (each_by_data (OfValues c.args.ctx.now) c.args.value.now _ (ap attr_data c.in-Aggregate.is ∙ aggregate_data c.in-Aggregate.elements c.in-Aggregate.ty) c.requires.first_class).0 in
    (search (rules, the_lemmas), (rw c.as_slice-in-Aggregate.ensures.value below, (rw c.as_slice-in-Aggregate.ensures.value first, c.in_ok-place-in-Aggregate.ensures.grown.tables)))

pub constant-constant-requires : goal.constant-constant-requires
constant-constant-requires t c =
    let below = (each_by_data (InStore c.args.ctx.now) c.args.value.now _ (ap attr_data c.in-Splat.is ∙ splat_data c.in-Splat.element c.in-Splat.ty) c.requires.within).0 in
    let first = (each_by_data (OfValues c.args.ctx.now) c.args.value.now _ (ap attr_data c.in-Splat.is ∙ splat_data c.in-Splat.element c.in-Splat.ty) c.requires.first_class).0 in
    (search (rules, the_lemmas), (rw c.deref.ensures below, (rw c.deref.ensures first, c.in_ok-place-in-Splat.ensures.grown.tables)))

-- ---- a constant

pub constant-returns-in-Integer-clause-is : goal.constant-returns-in-Integer-clause-is
constant-returns-in-Integer-clause-is t c =
    let x = c.args.ctx.now in
    let form = ap attr_data c.in-Integer.is ∙ integer_data c.in-Integer.ty c.in-Integer.value in
    let int = ap (λ (w : ℕ). Int w c.from.result) c.width_of.ensures ∙ ap (Int (width_in (type_at (type_trees x.types) c.in-Integer.ty))) c.from.ensures in
    IfOk-weaker c.put.result _ _ (λ k at setting. at ∙ ap Some (int ∙ sym (term_by_data setting x c.args.value.now _ form))) c.put.ensures.is

pub constant-returns-in-Zero-clause-is : goal.constant-returns-in-Zero-clause-is
constant-returns-in-Zero-clause-is t c =
    let form = ap attr_data c.in-Zero.is ∙ zero_data c.in-Zero.ty in
    IfOk-weaker c.filled.result _ _ (λ k at setting. at ∙ ap Some (sym (term_by_data setting c.args.ctx.now c.args.value.now _ form))) c.filled.ensures.is

pub constant-returns-in-Undef-clause-is : goal.constant-returns-in-Undef-clause-is
constant-returns-in-Undef-clause-is t c =
    let form = ap attr_data c.in-Undef.is ∙ undef_data c.in-Undef.ty in
    IfOk-weaker c.filled-in-Undef.result _ _ (λ k at setting. at ∙ ap Some (sym (term_by_data setting c.args.ctx.now c.args.value.now _ form))) c.filled-in-Undef.ensures.is

pub constant-returns-in-Poison-clause-is : goal.constant-returns-in-Poison-clause-is
constant-returns-in-Poison-clause-is t c =
    let form = ap attr_data c.in-Poison.is ∙ poison_data c.in-Poison.ty in
    IfOk-weaker c.filled-in-Poison.result _ _ (λ k at setting. at ∙ ap Some (sym (term_by_data setting c.args.ctx.now c.args.value.now _ form))) c.filled-in-Poison.ensures.is

pub constant-returns-in-Integer-clause-grown : goal.constant-returns-in-Integer-clause-grown
constant-returns-in-Integer-clause-grown t c = on_ok_weaker c.put.result (λ put. put _ c.requires.tables) c.put.ensures.grown

pub constant-returns-in-Bytes-clause-grown : goal.constant-returns-in-Bytes-clause-grown
constant-returns-in-Bytes-clause-grown t c = on_ok_weaker c.put_bytes.result (λ put. put _ c.requires.tables) c.put_bytes.ensures.grown

pub constant-put_bytes-requires : goal.constant-put_bytes-requires
constant-put_bytes-requires t c = (_, c.requires.tables)

pub constant-returns-in-Bytes-clause-is : goal.constant-returns-in-Bytes-clause-is
constant-returns-in-Bytes-clause-is t c =
    let form = ap attr_data c.in-Bytes.is ∙ bytes_data c.in-Bytes.bytes in
    let put = rw c.as_slice.ensures.value at c.put_bytes.ensures.is in
    IfOk-weaker c.put_bytes.result _ _ (λ k at setting. at ∙ ap Some (sym (term_by_data setting c.args.ctx.now c.args.value.now _ form))) put

pub constant-put_list-requires-clause-typed : goal.constant-put_list-requires-clause-typed
constant-put_list-requires-clause-typed t c = slice_get_within _ _ _ (c.in_ok-places-in-Aggregate.ensures.grown.kept.0 _ _ c.in_ok-place-in-Aggregate.ensures.stands)

pub constant-put_list-requires-clause-within : goal.constant-put_list-requires-clause-within
constant-put_list-requires-clause-within t c = all_below (trees_in c.parts.new.tables.types) c.parts.new.tables.terms _ _ (c.in_ok-places-in-Aggregate.ensures.are TellsNothing)

pub constant-returns-in_ok-places-in-Aggregate-clause-is : goal.constant-returns-in_ok-places-in-Aggregate-clause-is
constant-returns-in_ok-places-in-Aggregate-clause-is t c =
    let x = c.args.ctx.now in
    let elements = c.in-Aggregate.elements in
    let form = ap attr_data c.in-Aggregate.is ∙ aggregate_data elements c.in-Aggregate.ty in
    let type = c.in_ok-places-in-Aggregate.ensures.grown.kept.0 _ _ c.in_ok-place-in-Aggregate.ensures.stands in
    let places = c.in_ok-places-in-Aggregate.places.items in
    let now = contents_in c.parts.new.tables in
    IfOk-weaker c.put_list.result _ _
    (λ k at setting.
    let are = rw c.as_slice-in-Aggregate.ensures.value at (c.in_ok-places-in-Aggregate.ensures.are setting) in
    at ∙ ap Some (list_stands now c.in_ok-place-in-Aggregate.place (type_at (type_trees x.types) c.in-Aggregate.ty) places _ _ _ type are (attrs_terms setting x elements.items) (term_by_data setting x c.args.value.now _ form)))
    c.put_list.ensures.is

pub constant-returns-in_ok-places-in-Aggregate-clause-grown : goal.constant-returns-in_ok-places-in-Aggregate-clause-grown
constant-returns-in_ok-places-in-Aggregate-clause-grown t c =
    let grown = grown_then _ _ _ _ c.in_ok-place-in-Aggregate.ensures.grown c.in_ok-places-in-Aggregate.ensures.grown in
    on_ok_weaker c.put_list.result (λ put. grown_then _ _ _ _ grown (put _ grown.tables)) c.put_list.ensures.grown

pub constant-lanes-requires-clause-stands : goal.constant-lanes-requires-clause-stands
constant-lanes-requires-clause-stands t c = c.in_ok-lane-in-Splat.ensures.grown.kept.0 _ _ c.in_ok-place-in-Splat.ensures.stands

pub constant-lanes-requires-clause-lane : goal.constant-lanes-requires-clause-lane
constant-lanes-requires-clause-lane t c = named_below (trees_in c.constant.new.tables.types) c.constant.new.tables.terms _ _ (c.in_ok-lane-in-Splat.ensures.is TellsNothing)

pub constant-returns-in_ok-lane-in-Splat-clause-is : goal.constant-returns-in_ok-lane-in-Splat-clause-is
constant-returns-in_ok-lane-in-Splat-clause-is t c =
    let x = c.args.ctx.now in
    let form = ap attr_data c.in-Splat.is ∙ splat_data c.in-Splat.element c.in-Splat.ty in
    let ts = (contents_in c.constant.new.tables).terms in
    let type = type_at (type_trees x.types) c.in-Splat.ty in
    IfOk-weaker c.lanes.result _ _
    (λ k at setting.
    let lane = term_stands ts c.in_ok-lane-in-Splat.lane _ (c.in_ok-lane-in-Splat.ensures.is setting) ∙ ap (term_of setting x) c.deref.ensures in
    at ∙ ap Some (ap (lanes_term type) lane ∙ sym (term_by_data setting x c.args.value.now _ form)))
    c.lanes.ensures.is

pub constant-returns-in_ok-lane-in-Splat-clause-grown : goal.constant-returns-in_ok-lane-in-Splat-clause-grown
constant-returns-in_ok-lane-in-Splat-clause-grown t c =
    let grown = grown_then _ _ _ _ c.in_ok-place-in-Splat.ensures.grown c.in_ok-lane-in-Splat.ensures.grown in
    on_ok_weaker c.lanes.result (λ lanes. grown_then _ _ _ _ grown lanes) c.lanes.ensures.grown

-- ---- parts

pub parts-constant-requires : goal.parts-constant-requires
parts-constant-requires t c =
    let below = each_at_index (InStore c.args.ctx.now) c.args.parts.now c.loop-part.part-index c.part-item.result c.requires.within c.loop-part-test.true c.part-item.is in
    let first = each_at_index (OfValues c.args.ctx.now) c.args.parts.now c.loop-part.part-index c.part-item.result c.requires.first_class c.loop-part-test.true c.part-item.is in
    (search (rules, the_lemmas), (below, (first, c.loop-part.invariant.grown.tables)))

pub parts-loop-part-init : goal.parts-loop-part-init
parts-loop-part-init t c = record { grown = grown_same _ _ c.requires.tables; are = λ setting. rw c.new-places.ensures.items tt }

pub parts-loop-part-preserved : goal.parts-loop-part-preserved
parts-loop-part-preserved t c =
    let grown = c.in_ok-place.ensures.grown in
    record {
      grown = grown_then _ _ _ _ c.loop-part.invariant.grown grown;
      are = λ setting.
          let here = rw c.part-item.is at (c.in_ok-place.ensures.is setting) in
          rw c.in_ok-push.ensures.items
          (terms_more (term_of setting c.args.ctx.now) _ _ c.loop-part.places.items c.in_ok-place.place c.args.parts.now c.loop-part.part-index c.part-item.result c.loop-part-test.true grown.kept.1 (c.loop-part.invariant.are setting) here);
    }
