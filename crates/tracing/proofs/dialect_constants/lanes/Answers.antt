-- What `dialect_constants::lanes` owes besides what the check finds.
use Rattle.std.proofs.Common.{ℕ, List, Some, map, ap, sym, ◌∙◌}
use Rattle.std.proofs.lemmas.Option.{slice_get_within}
use Rattle.std.proofs.lemmas.Result.{IfOk-weaker, on_ok_weaker}
use Rattle.dialect_types.specs.Trees.{TypeTree, type_at, type_trees}
use Rattle.meaning.specs.Terms.{terms_of}
use Rattle.meaning.specs.Constants.{list_term, splat_term}
use Rattle.tracing.specs.Table.{term_at}
use Rattle.tracing.specs.TypePlaces.{trees_in}
use Rattle.tracing.specs.Tables.{contents_in}
use Rattle.tracing.proofs.ConstLaws.{copies_terms, all_copies, lanes_by}
use Rattle.tracing.proofs.GrowLaws.{stands_at}
use Rattle.tracing.proofs.dialect_constants.lanes.Goals as goal

pub put_list-requires-clause-typed : goal.put_list-requires-clause-typed
put_list-requires-clause-typed c = slice_get_within _ _ _ c.requires.stands

pub put_list-requires-clause-within : goal.put_list-requires-clause-within
put_list-requires-clause-within c = all_copies _ c.args.lane c.in-Some.count c.in_ok-places-in-Some.places.items c.in_ok-places-in-Some.ensures c.requires.lane

pub returns-in_ok-places-in-Some-clause-is : goal.returns-in_ok-places-in-Some-clause-is
returns-in_ok-places-in-Some-clause-is c =
    let ts = (contents_in c.args.tables.now).terms in
    let type = type_at (type_trees c.args.ctx.now.types) c.args.ty in
    let lane = term_at ts c.args.lane in
    let same = stands_at (trees_in c.args.tables.now.types) c.args.type_place type c.requires.stands in
    let all = ap (λ (ks : List ℕ). terms_of (map (term_at ts) ks)) c.in_ok-places-in-Some.ensures ∙ copies_terms ts c.args.lane c.in-Some.count in
    let is = lanes_by type lane _ (sym c.fixed_lanes.ensures ∙ c.in-Some.is) in
    IfOk-weaker c.put_list.result _ _
    (λ k at. at ∙ ap Some (ap (λ (u : TypeTree). list_term u (terms_of (map (term_at ts) c.in_ok-places-in-Some.places.items))) same ∙ ap (list_term type) all ∙ sym is))
    c.put_list.ensures.is

pub put_splat-requires-clause-typed : goal.put_splat-requires-clause-typed
put_splat-requires-clause-typed c = slice_get_within _ _ _ c.requires.stands

pub returns-in-None-clause-is : goal.returns-in-None-clause-is
returns-in-None-clause-is c =
    let ts = (contents_in c.args.tables.now).terms in
    let type = type_at (type_trees c.args.ctx.now.types) c.args.ty in
    let lane = term_at ts c.args.lane in
    let same = stands_at (trees_in c.args.tables.now.types) c.args.type_place type c.requires.stands in
    let is = lanes_by type lane _ (sym c.fixed_lanes.ensures ∙ c.in-None.is) in
    IfOk-weaker c.put_splat.result _ _ (λ k at. at ∙ ap Some (ap (λ (u : TypeTree). splat_term u lane) same ∙ sym is)) c.put_splat.ensures.is

pub returns-in_ok-places-in-Some-clause-grown : goal.returns-in_ok-places-in-Some-clause-grown
returns-in_ok-places-in-Some-clause-grown c = on_ok_weaker c.put_list.result (λ put. put _ c.requires.tables) c.put_list.ensures.grown

pub returns-in-None-clause-grown : goal.returns-in-None-clause-grown
returns-in-None-clause-grown c = on_ok_weaker c.put_splat.result (λ put. put _ c.requires.tables) c.put_splat.ensures.grown
