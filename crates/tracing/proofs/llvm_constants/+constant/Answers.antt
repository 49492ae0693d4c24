-- What the cycle of `llvm_constants::constant` owes besides what the check finds.
use Rattle.std.proofs.Common.{Some, ap, sym, subst, ◌∙◌}
use Rattle.std.proofs.lemmas.Option.{slice_get_within}
use Rattle.std.proofs.lemmas.Result.{IfOk-weaker, on_ok_weaker}
use Rattle.llvm_core.specs.declared.numbers.LLVMConst.{LLVMConst}
use Rattle.llvm_core.specs.declared.consts.LLVMConstKind.TheVariants as C
use Rattle.llvm_core.specs.Consts.{IsConstIn}
use Rattle.llvm_core.specs.Data.{trees_of, type_at}
use Rattle.llvm_core.proofs.WithinLemmas.{const_type_within}
use Rattle.meaning.specs.Terms as M
use Rattle.tracing.specs.TypePlaces.{trees_in}
use Rattle.tracing.specs.Table.{IsTermAt}
use Rattle.tracing.specs.Contents.{Contents}
use Rattle.tracing.specs.Tables.{contents_in}
use Rattle.tracing.specs.LlvmBodies.{term_in}
use Rattle.tracing.proofs.ConstLaws.{kind_term, int_term, own_term, parts_terms}
use Rattle.tracing.proofs.GrowLaws.{stands_at}
use Rattle.tracing.proofs.RunLaws.{all_below}
use Rattle.tracing.proofs.TableLaws.{named_below}
use Rattle.tracing.proofs.TablesLaws.{grown_same, grown_then, terms_more, list_stands, splat_stands}
use Rattle.tracing.proofs.llvm_constants.+constant.Goals as goal

abbrev some_const : LLVMConst
some_const = record { 0 = 0 }

-- ---- a constant

pub constant-returns-in_ok-note-in-None-clause-stands : goal.constant-returns-in_ok-note-in-None-clause-stands
constant-returns-in_ok-note-in-None-clause-stands t c = subst (λ (d : Contents). IsTermAt d.terms c.in_ok-place-in-None.place (term_in c.args.m.now c.args.c)) (sym c.in_ok-note-in-None.ensures.contents) c.in_ok-place-in-None.ensures.stands

pub constant-returns-in_ok-note-in-None-clause-grown : goal.constant-returns-in_ok-note-in-None-clause-grown
constant-returns-in_ok-note-in-None-clause-grown t c =
    let made = c.in_ok-place-in-None.ensures.grown in
    grown_then _ _ _ _ made (c.in_ok-note-in-None.ensures.grown _ made.tables c.in_ok-place-in-None.ensures.stands)

-- ---- one that has no place yet

pub made-returns-in-Int-clause-stands : goal.made-returns-in-Int-clause-stands
made-returns-in-Int-clause-stands t c =
    let is = int_term c.args.m.now c.requires.sound c.args.c c.in-Int.ty c.int_width.result c.in-Int.value (c.const_kind.ensures.kind ∙ ap Some c.in-Int.is) c.int_width.ensures in
    IfOk-weaker c.put.result _ _ (λ k at. at ∙ ap Some (sym is)) c.put.ensures.is

pub made-returns-in-Int-clause-grown : goal.made-returns-in-Int-clause-grown
made-returns-in-Int-clause-grown t c = on_ok_weaker c.put.result (λ put. put _ c.requires.tables) c.put.ensures.grown

pub made-returns-in-Bytes-clause-grown : goal.made-returns-in-Bytes-clause-grown
made-returns-in-Bytes-clause-grown t c = on_ok_weaker c.put_bytes.result (λ put. put _ c.requires.tables) c.put_bytes.ensures.grown

pub made-returns-in-Placeholder-clause-grown : goal.made-returns-in-Placeholder-clause-grown
made-returns-in-Placeholder-clause-grown t c = on_ok_weaker c.put-in-Placeholder.result (λ put. put _ c.requires.tables) c.put-in-Placeholder.ensures.grown

pub made-put-requires-in-Filled-clause-typed : goal.made-put-requires-in-Filled-clause-typed
made-put-requires-in-Filled-clause-typed t c = slice_get_within _ _ _ c.in_ok-place-in-Filled.ensures.stands

pub made-returns-in_ok-place-in-Filled-clause-stands : goal.made-returns-in_ok-place-in-Filled-clause-stands
made-returns-in_ok-place-in-Filled-clause-stands t c =
    let over = subst (IsConstIn c.args.m.now) c.in-Filled.is c.const_kind.ensures.parts in
    let own = own_term c.args.m.now c.requires.sound c.args.c c.in-Filled.fill c.in-Filled.ty (c.const_kind.ensures.kind ∙ ap Some c.in-Filled.is) over in
    let type = stands_at (trees_in c.type_place.new.tables.types) c.in_ok-place-in-Filled.place _ c.in_ok-place-in-Filled.ensures.stands in
    IfOk-weaker c.put-in-Filled.result _ _ (λ k at. at ∙ ap Some (ap (M.Filled c.in-Filled.fill) type ∙ sym own)) c.put-in-Filled.ensures.is

pub made-returns-in_ok-place-in-Filled-clause-grown : goal.made-returns-in_ok-place-in-Filled-clause-grown
made-returns-in_ok-place-in-Filled-clause-grown t c =
    let grown = c.in_ok-place-in-Filled.ensures.grown in
    on_ok_weaker c.put-in-Filled.result (λ put. grown_then _ _ _ _ grown (put _ grown.tables)) c.put-in-Filled.ensures.grown

pub made-put_bytes-requires : goal.made-put_bytes-requires
made-put_bytes-requires t c = (_, c.requires.tables)

pub made-returns-in-Bytes-clause-stands : goal.made-returns-in-Bytes-clause-stands
made-returns-in-Bytes-clause-stands t c =
    let is = kind_term c.args.m.now c.requires.sound c.args.c (C.Bytes c.in-Bytes.field-0 c.in-Bytes.bytes) (c.const_kind.ensures.kind ∙ ap Some c.in-Bytes.is) in
    let put = rw c.as_slice.ensures at c.put_bytes.ensures.is in
    IfOk-weaker c.put_bytes.result _ _ (λ k at. at ∙ ap Some (sym is)) put

pub made-type_place-requires-in-List-clause-within : goal.made-type_place-requires-in-List-clause-within
made-type_place-requires-in-List-clause-within t c =
    const_type_within c.args.m.now (C.List c.in-List.ty c.in-List.elements) (subst (IsConstIn c.args.m.now) c.in-List.is c.const_kind.ensures.parts)

pub made-put_list-requires-clause-typed : goal.made-put_list-requires-clause-typed
made-put_list-requires-clause-typed t c = slice_get_within _ _ _ (c.in_ok-places-in-List.ensures.grown.kept.0 _ _ c.in_ok-place-in-List.ensures.stands)

pub made-put_list-requires-clause-within : goal.made-put_list-requires-clause-within
made-put_list-requires-clause-within t c = all_below (trees_in c.parts.new.tables.types) c.parts.new.tables.terms _ _ c.in_ok-places-in-List.ensures.stand

pub made-returns-in_ok-places-in-List-clause-stands : goal.made-returns-in_ok-places-in-List-clause-stands
made-returns-in_ok-places-in-List-clause-stands t c =
    let m = c.args.m.now in
    let is = kind_term m c.requires.sound c.args.c (C.List c.in-List.ty c.in-List.elements) (c.const_kind.ensures.kind ∙ ap Some c.in-List.is) in
    let type = c.in_ok-places-in-List.ensures.grown.kept.0 _ _ c.in_ok-place-in-List.ensures.stands in
    let are = rw c.as_slice-in-List.ensures at c.in_ok-places-in-List.ensures.stand in
    IfOk-weaker c.put_list.result _ _
    (λ k at. at ∙ ap Some (list_stands (contents_in c.parts.new.tables) c.in_ok-place-in-List.place (type_at (trees_of m).types c.in-List.ty) c.in_ok-places-in-List.places.items _ _ _ type are (parts_terms m c.in-List.elements) is))
    c.put_list.ensures.is

pub made-returns-in_ok-places-in-List-clause-grown : goal.made-returns-in_ok-places-in-List-clause-grown
made-returns-in_ok-places-in-List-clause-grown t c =
    let grown = grown_then _ _ _ _ c.in_ok-place-in-List.ensures.grown c.in_ok-places-in-List.ensures.grown in
    on_ok_weaker c.put_list.result (λ put. grown_then _ _ _ _ grown (put _ grown.tables)) c.put_list.ensures.grown

pub made-type_place-requires-in-Splat-clause-within : goal.made-type_place-requires-in-Splat-clause-within
made-type_place-requires-in-Splat-clause-within t c =
    const_type_within c.args.m.now (C.Splat c.in-Splat.ty c.in-Splat.element) (subst (IsConstIn c.args.m.now) c.in-Splat.is c.const_kind.ensures.parts)

pub made-put_splat-requires-clause-typed : goal.made-put_splat-requires-clause-typed
made-put_splat-requires-clause-typed t c = slice_get_within _ _ _ (c.in_ok-lane-in-Splat.ensures.grown.kept.0 _ _ c.in_ok-place-in-Splat.ensures.stands)

pub made-put_splat-requires-clause-within : goal.made-put_splat-requires-clause-within
made-put_splat-requires-clause-within t c = named_below (trees_in c.constant.new.tables.types) c.constant.new.tables.terms _ _ c.in_ok-lane-in-Splat.ensures.stands

pub made-returns-in_ok-lane-in-Splat-clause-stands : goal.made-returns-in_ok-lane-in-Splat-clause-stands
made-returns-in_ok-lane-in-Splat-clause-stands t c =
    let m = c.args.m.now in
    let is = kind_term m c.requires.sound c.args.c (C.Splat c.in-Splat.ty c.in-Splat.element) (c.const_kind.ensures.kind ∙ ap Some c.in-Splat.is) in
    let type = c.in_ok-lane-in-Splat.ensures.grown.kept.0 _ _ c.in_ok-place-in-Splat.ensures.stands in
    IfOk-weaker c.put_splat.result _ _
    (λ k at. at ∙ ap Some (splat_stands (contents_in c.constant.new.tables) c.in_ok-place-in-Splat.place (type_at (trees_of m).types c.in-Splat.ty) c.in_ok-lane-in-Splat.lane (term_in m c.in-Splat.element) _ type c.in_ok-lane-in-Splat.ensures.stands is))
    c.put_splat.ensures.is

pub made-returns-in_ok-lane-in-Splat-clause-grown : goal.made-returns-in_ok-lane-in-Splat-clause-grown
made-returns-in_ok-lane-in-Splat-clause-grown t c =
    let grown = grown_then _ _ _ _ c.in_ok-place-in-Splat.ensures.grown c.in_ok-lane-in-Splat.ensures.grown in
    on_ok_weaker c.put_splat.result (λ put. grown_then _ _ _ _ grown (put _ grown.tables)) c.put_splat.ensures.grown

pub made-returns-in-Placeholder-clause-stands : goal.made-returns-in-Placeholder-clause-stands
made-returns-in-Placeholder-clause-stands t c =
    let is = kind_term c.args.m.now c.requires.sound c.args.c (C.Placeholder c.in-Placeholder.field-0 c.in-Placeholder.field-1) (c.const_kind.ensures.kind ∙ ap Some c.in-Placeholder.is) in
    IfOk-weaker c.put-in-Placeholder.result _ _ (λ k at. at ∙ ap Some (sym is)) c.put-in-Placeholder.ensures.is

-- ---- parts

pub parts-loop-part-init : goal.parts-loop-part-init
parts-loop-part-init t c = record { grown = grown_same _ _ c.requires.tables; stand = rw c.new-places.ensures.items tt }

pub parts-loop-part-preserved : goal.parts-loop-part-preserved
parts-loop-part-preserved t c =
    let grown = c.in_ok-place.ensures.grown in
    record {
      grown = grown_then _ _ _ _ c.loop-part.invariant.grown grown;
      stand = rw c.in_ok-push.ensures.items
          (terms_more (term_in c.args.m.now) _ _ c.loop-part.places.items c.in_ok-place.place c.args.parts.now c.loop-part.part-index some_const c.loop-part-test.true grown.kept.1 c.loop-part.invariant.stand c.in_ok-place.ensures.stands);
    }
