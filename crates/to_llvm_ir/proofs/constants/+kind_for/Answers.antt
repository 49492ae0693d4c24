-- What `constants::kind_for` and what it calls owe besides what the check finds.
use Rattle.std.proofs.Common.{◌∙◌, List, Some, take, ap, sym, subst, refl}
use Rattle.std.proofs.Common.{rules}
use Rattle.const_attrs.specs.declared.const_attr.ConstAttr.{the_lemmas}
use Rattle.std.proofs.lemmas.List.{take_all}
use Rattle.std.proofs.lemmas.Option.{slice_get-get_or}
use Rattle.llvm_core.specs.declared.numbers.LLVMConst.{LLVMConst}
use Rattle.kinds.specs.declared.fill.Fill.TheVariants as Fills
use Rattle.const_attrs.specs.declared.const_attr.ConstAttr.{ConstAttr}
use Rattle.const_attrs.specs.Trees.{AggregateAttr, SplatAttr, attr_data, attrs_data}
use Rattle.const_attrs.proofs.DataLaws.{integer_data, zero_data, undef_data, poison_data, bytes_data, aggregate_data, splat_data}
use Rattle.to_llvm_ir.specs.Constants.{IsConstOf, AreConstsOf}
use Rattle.to_llvm_ir.proofs.ConstantLaws.{bytes_made, const_got, consts_stay, filled_made, int_made, lane_ready, list_made, list_ready, part_ready, part_source, rest_then, splat_made, splat_ready, splat_there}
use Rattle.to_llvm_ir.proofs.GrowthLaws.{grows_const, grows_refl, grows_then}
use Rattle.to_llvm_ir.proofs.ListLaws.{matched_more}
use Rattle.to_llvm_ir.proofs.constants.+kind_for.Goals as goal

-- ---- constants without elements

pub kind_for-returns-in-Integer : goal.kind_for-returns-in-Integer
kind_for-returns-in-Integer t c =
    let m = c.args.back.now in
    let source = c.requires.source in
    let is = ap attr_data c.in-Integer.is ∙ integer_data c.in-Integer.field-0 c.in-Integer.number in
    record {
      parts = (int_made source.0 m c.requires.sound (attr_data c.args.value.now) c.args.ty source.1 _ _ c.from.result is c.from.ensures).0;
      form = λ ts h. (int_made ts m c.requires.sound (attr_data c.args.value.now) c.args.ty h _ _ c.from.result is c.from.ensures).1;
      grows = grows_refl m;
      rest = refl;
      «data» = refl;
      sound = c.requires.sound;
    }

pub kind_for-returns-in-Zero : goal.kind_for-returns-in-Zero
kind_for-returns-in-Zero t c =
    let m = c.args.back.now in
    let source = c.requires.source in
    let is = ap attr_data c.in-Zero.is ∙ zero_data c.in-Zero.field-0 in
    record {
      parts = (filled_made source.0 m c.requires.sound (attr_data c.args.value.now) c.args.ty source.1 Fills.Zero _ is).0;
      form = λ ts h. (filled_made ts m c.requires.sound (attr_data c.args.value.now) c.args.ty h Fills.Zero _ is).1;
      grows = grows_refl m;
      rest = refl;
      «data» = refl;
      sound = c.requires.sound;
    }

pub kind_for-returns-in-Undef : goal.kind_for-returns-in-Undef
kind_for-returns-in-Undef t c =
    let m = c.args.back.now in
    let source = c.requires.source in
    let is = ap attr_data c.in-Undef.is ∙ undef_data c.in-Undef.field-0 in
    record {
      parts = (filled_made source.0 m c.requires.sound (attr_data c.args.value.now) c.args.ty source.1 Fills.Undef _ is).0;
      form = λ ts h. (filled_made ts m c.requires.sound (attr_data c.args.value.now) c.args.ty h Fills.Undef _ is).1;
      grows = grows_refl m;
      rest = refl;
      «data» = refl;
      sound = c.requires.sound;
    }

pub kind_for-returns-in-Poison : goal.kind_for-returns-in-Poison
kind_for-returns-in-Poison t c =
    let m = c.args.back.now in
    let source = c.requires.source in
    let is = ap attr_data c.in-Poison.is ∙ poison_data c.in-Poison.field-0 in
    record {
      parts = (filled_made source.0 m c.requires.sound (attr_data c.args.value.now) c.args.ty source.1 Fills.Poison _ is).0;
      form = λ ts h. (filled_made ts m c.requires.sound (attr_data c.args.value.now) c.args.ty h Fills.Poison _ is).1;
      grows = grows_refl m;
      rest = refl;
      «data» = refl;
      sound = c.requires.sound;
    }

pub kind_for-returns-in_ok-copied-in-Bytes : goal.kind_for-returns-in_ok-copied-in-Bytes
kind_for-returns-in_ok-copied-in-Bytes t c =
    let m = c.args.back.now in
    let source = c.requires.source in
    let is = ap attr_data c.in-Bytes.is ∙ bytes_data c.in-Bytes.bytes in
    let same = c.in_ok-copied-in-Bytes.ensures ∙ c.as_slice.ensures.value in
    record {
      parts = (bytes_made source.0 m c.requires.sound (attr_data c.args.value.now) c.args.ty source.1 _ _ is same).0;
      form = λ ts h. (bytes_made ts m c.requires.sound (attr_data c.args.value.now) c.args.ty h _ _ is same).1;
      grows = grows_refl m;
      rest = refl;
      «data» = refl;
      sound = c.requires.sound;
    }

-- ---- aggregates

pub kind_for-consts_for-requires : goal.kind_for-consts_for-requires
kind_for-consts_for-requires t c =
    let source = c.requires.source in
    let is = ap attr_data c.in-Aggregate.is ∙ aggregate_data c.in-Aggregate.elements c.in-Aggregate.field-1 ∙ ap (λ (xs : List ConstAttr). AggregateAttr (attrs_data xs) c.in-Aggregate.field-1) (sym c.as_slice-in-Aggregate.ensures.value) in
    let h = list_ready source.0 c.args.back.now c.requires.sound (attr_data c.args.value.now) c.args.ty source.1 c.as_slice-in-Aggregate.result.now c.in-Aggregate.field-1 is in
    (search (rules, the_lemmas), ((source.0, h.parts, h.are, h.sources), c.requires.sound))

pub kind_for-returns-in_ok-elements-in-Aggregate : goal.kind_for-returns-in_ok-elements-in-Aggregate
kind_for-returns-in_ok-elements-in-Aggregate t c =
    let m = c.args.back.now in
    let source = c.requires.source in
    let made = c.in_ok-elements-in-Aggregate.ensures in
    let new = c.consts_for.new.back in
    let is = ap attr_data c.in-Aggregate.is ∙ aggregate_data c.in-Aggregate.elements c.in-Aggregate.field-1 ∙ ap (λ (xs : List ConstAttr). AggregateAttr (attrs_data xs) c.in-Aggregate.field-1) (sym c.as_slice-in-Aggregate.ensures.value) in
    record {
      parts = (list_made source.0 m c.requires.sound (attr_data c.args.value.now) c.args.ty source.1 new made.sound made.rest c.as_slice-in-Aggregate.result.now c.in-Aggregate.field-1 c.in_ok-elements-in-Aggregate.elements is (made.are source.0)).0;
      form = λ ts h. (list_made ts m c.requires.sound (attr_data c.args.value.now) c.args.ty h new made.sound made.rest c.as_slice-in-Aggregate.result.now c.in-Aggregate.field-1 c.in_ok-elements-in-Aggregate.elements is (made.are ts)).1;
      grows = made.grows;
      rest = made.rest;
      «data» = made.data;
      sound = made.sound;
    }

-- ---- vectors of equal elements

pub kind_for-lane_of-lane-requires : goal.kind_for-lane_of-lane-requires
kind_for-lane_of-lane-requires t c =
    let source = c.requires.source in
    let is = ap attr_data c.in-Splat.is ∙ splat_data c.in-Splat.element c.in-Splat.field-1 in
    let h = lane_ready source.0 c.args.back.now c.requires.sound (attr_data c.args.value.now) c.args.ty source.1 _ _ is in
    (h.lane, h.vector)

pub kind_for-kind_for-requires : goal.kind_for-kind_for-requires
kind_for-kind_for-requires t c =
    let source = c.requires.source in
    let is = ap attr_data c.in-Splat.is ∙ splat_data c.in-Splat.element c.in-Splat.field-1 ∙ ap (λ (x : ConstAttr). SplatAttr (attr_data x) c.in-Splat.field-1) (sym c.deref.ensures) in
    let h = splat_ready source.0 c.args.back.now c.requires.sound (attr_data c.args.value.now) c.args.ty source.1 (attr_data c.deref.result.now) c.in-Splat.field-1 c.lane_of-lane.result is c.lane_of-lane.ensures in
    (search (rules, the_lemmas), ((source.0, h.1), c.requires.sound))

pub kind_for-const_get-requires : goal.kind_for-const_get-requires
kind_for-const_get-requires t c = c.in_ok-kind-in-Splat.ensures.parts

pub kind_for-splat_kind-requires : goal.kind_for-splat_kind-requires
kind_for-splat_kind-requires t c =
    let source = c.requires.source in
    let is = ap attr_data c.in-Splat.is ∙ splat_data c.in-Splat.element c.in-Splat.field-1 ∙ ap (λ (x : ConstAttr). SplatAttr (attr_data x) c.in-Splat.field-1) (sym c.deref.ensures) in
    let kind = c.in_ok-kind-in-Splat.ensures in
    let got = c.in_ok-element-in-Splat.ensures in
    let h = splat_ready source.0 c.args.back.now c.requires.sound (attr_data c.args.value.now) c.args.ty source.1 (attr_data c.deref.result.now) c.in-Splat.field-1 c.lane_of-lane.result is c.lane_of-lane.ensures in
    let made = const_got source.0 c.kind_for.new.back c.const_get.new.self (attr_data c.deref.result.now) c.in_ok-kind-in-Splat.kind _ c.in_ok-element-in-Splat.element (kind.form source.0 h.1) got.interned got.form in
    splat_there source.0 c.args.back.now c.const_get.new.self (attr_data c.deref.result.now) c.args.ty c.lane_of-lane.result c.in_ok-element-in-Splat.element got.sound (rest_then c.args.back.now c.kind_for.new.back c.const_get.new.self kind.rest got.rest) h.0 h.1 made

pub kind_for-returns-in_ok-lanes-in-Splat : goal.kind_for-returns-in_ok-lanes-in-Splat
kind_for-returns-in_ok-lanes-in-Splat t c =
    let is = ap attr_data c.in-Splat.is ∙ splat_data c.in-Splat.element c.in-Splat.field-1 ∙ ap (λ (x : ConstAttr). SplatAttr (attr_data x) c.in-Splat.field-1) (sym c.deref.ensures) in
    let kind = c.in_ok-kind-in-Splat.ensures in
    let got = c.in_ok-element-in-Splat.ensures in
    let lanes = c.in_ok-lanes-in-Splat.ensures in
    let rest = rest_then c.args.back.now c.kind_for.new.back c.const_get.new.self kind.rest got.rest in
    record {
      parts = lanes.parts;
      form = λ ts h.
          let ready = splat_ready ts c.args.back.now c.requires.sound (attr_data c.args.value.now) c.args.ty h (attr_data c.deref.result.now) c.in-Splat.field-1 c.lane_of-lane.result is c.lane_of-lane.ensures in
          let made = const_got ts c.kind_for.new.back c.const_get.new.self (attr_data c.deref.result.now) c.in_ok-kind-in-Splat.kind _ c.in_ok-element-in-Splat.element (kind.form ts ready.1) got.interned got.form in
          splat_made ts c.args.back.now c.requires.sound (attr_data c.args.value.now) c.args.ty h c.const_get.new.self rest (attr_data c.deref.result.now) c.in-Splat.field-1 c.in_ok-element-in-Splat.element c.in_ok-lanes-in-Splat.lanes got.sound is made lanes.form;
      grows = grows_then c.args.back.now c.kind_for.new.back c.const_get.new.self kind.grows (grows_const c.kind_for.new.back c.const_get.new.self _ c.in_ok-element-in-Splat.element.0 got.interned got.rest);
      rest = rest;
      «data» = got.data ∙ kind.data;
      sound = got.sound;
    }

-- ---- the elements, one after another

pub consts_for-loop-place-init : goal.consts_for-loop-place-init
consts_for-loop-place-init t c = record { grows = grows_refl c.args.back.now; rest = refl; same = refl; sound = c.requires.sound; are = λ ts parts has sources. rw (c.from_vec-elements.ensures, c.in_ok-with_capacity.ensures.items) tt }

pub consts_for-part_at-part-requires : goal.consts_for-part_at-part-requires
consts_for-part_at-part-requires t c =
    let h = c.requires.sources in
    let r = part_ready h.0 c.args.back.now c.loop-place.back c.loop-place.invariant.rest c.args.values.now c.args.ty h.1 h.2 h.3 c.loop-place.place c.loop-place-test.true in
    (h.1, r.0, r.1)

pub consts_for-kind_for-requires : goal.consts_for-kind_for-requires
consts_for-kind_for-requires t c =
    let h = c.requires.sources in
    let r = part_ready h.0 c.args.back.now c.loop-place.back c.loop-place.invariant.rest c.args.values.now c.args.ty h.1 h.2 h.3 c.loop-place.place c.loop-place-test.true in
    let part = c.part_at-part.ensures h.1 r.0 r.1 in
    let here = slice_get-get_or c.args.values.now c.loop-place.place c.index-values-place.result c.loop-place-test.true ∙ ap Some (sym c.index-values-place.is) in
    (search (rules, the_lemmas), ((h.0, part_source h.0 c.args.back.now c.loop-place.back c.loop-place.invariant.rest c.args.values.now c.args.ty h.1 h.2 h.3 c.loop-place.place c.index-values-place.result c.part_at-part.result here part), c.loop-place.invariant.sound))

pub consts_for-const_get-requires : goal.consts_for-const_get-requires
consts_for-const_get-requires t c = c.in_ok-kind.ensures.parts

pub consts_for-loop-place-preserved : goal.consts_for-loop-place-preserved
consts_for-loop-place-preserved t c =
    let before = c.loop-place.invariant in
    let kind = c.in_ok-kind.ensures in
    let got = c.in_ok-c.ensures in
    let step = rest_then c.loop-place.back c.kind_for.new.back c.const_get.new.self kind.rest got.rest in
    let grows = grows_then c.loop-place.back c.kind_for.new.back c.const_get.new.self kind.grows (grows_const c.kind_for.new.back c.const_get.new.self _ c.in_ok-c.c.0 got.interned got.rest) in
    let here = slice_get-get_or c.args.values.now c.loop-place.place c.index-values-place.result c.loop-place-test.true ∙ ap Some (sym c.index-values-place.is) in
    record {
      grows = grows_then c.args.back.now c.loop-place.back c.const_get.new.self before.grows grows;
      rest = rest_then c.args.back.now c.loop-place.back c.const_get.new.self before.rest step;
      same = got.data ∙ kind.data ∙ before.same;
      sound = got.sound;
      are = λ ts parts has sources.
          let r = part_ready ts c.args.back.now c.loop-place.back before.rest c.args.values.now c.args.ty parts has sources c.loop-place.place c.loop-place-test.true in
          let part = c.part_at-part.ensures parts r.0 r.1 in
          let source = part_source ts c.args.back.now c.loop-place.back before.rest c.args.values.now c.args.ty parts has sources c.loop-place.place c.index-values-place.result c.part_at-part.result here part in
          let made = const_got ts c.kind_for.new.back c.const_get.new.self (attr_data c.index-values-place.result) c.in_ok-kind.kind _ c.in_ok-c.c (kind.form ts source) got.interned got.form in
          matched_more (λ (a : ConstAttr) (x : LLVMConst). IsConstOf ts c.const_get.new.self (attr_data a) x) c.args.values.now c.loop-place.place c.index-values-place.result c.loop-place.elements c.push.new.self c.in_ok-c.c here c.in_ok-push.ensures.ok
          (consts_stay ts c.loop-place.back c.const_get.new.self (take c.loop-place.place c.args.values.now) c.loop-place.elements before.sound grows (before.are ts parts has sources)) made;
    }

pub consts_for-returns : goal.consts_for-returns
consts_for-returns t c =
    let h = c.loop-place.invariant in
    record {
      are = λ ts parts has sources. subst (λ (xs : List ConstAttr). AreConstsOf ts c.loop-place.back xs c.loop-place.elements) (take_all c.loop-place.place c.args.values.now c.loop-place-test.false) (h.are ts parts has sources);
      grows = h.grows;
      rest = h.rest;
      «data» = h.same;
      sound = h.sound;
    }
