-- What `tables::put_bytes` owes besides what the check finds.
use Rattle.std.proofs.Common.{Some, map, length, refl, sym, subst, ap, ◌∙◌}
use Rattle.std.proofs.lemmas.Option.{slice_get_within}
use Rattle.std.proofs.lemmas.Result.{IfOk-weaker, on_ok_weaker}
use Rattle.kinds.specs.Types.{IntType, ArrayType}
use Rattle.meaning.specs.Terms.{Int}
use Rattle.tracing.specs.declared.type_places.TypePlaces.{TypePlaces}
use Rattle.tracing.specs.Types.{Stands}
use Rattle.tracing.specs.TypePlaces.{trees_in}
use Rattle.tracing.specs.Tables.{contents_in}
use Rattle.tracing.proofs.RunLaws.{all_below}
use Rattle.tracing.proofs.TablesLaws.{grown_then, list_stands}
use Rattle.tracing.proofs.tables.put_bytes.Goals as goal

pub put_list-requires-clause-typed : goal.put_list-requires-clause-typed
put_list-requires-clause-typed c = rw c.in_ok-places.ensures.types (slice_get_within _ _ _ c.in_ok-ty.ensures.stands)

pub put_list-requires-clause-within : goal.put_list-requires-clause-within
put_list-requires-clause-within c = all_below (trees_in c.byte_places.new.tables.types) c.byte_places.new.tables.terms _ _ c.in_ok-places.ensures.are

pub returns-clause-is : goal.returns-clause-is
returns-clause-is c =
    let bytes = c.args.bytes.now in
    let type = ArrayType (length bytes) (IntType 8) in
    let stands = subst (λ (p : TypePlaces). Stands (trees_in p) c.in_ok-ty.ty type) (sym c.in_ok-places.ensures.types) c.in_ok-ty.ensures.stands in
    IfOk-weaker c.put_list.result _ _
    (λ k at. at ∙ ap Some (list_stands (contents_in c.byte_places.new.tables) c.in_ok-ty.ty type c.in_ok-places.places.items (map (Int 8) bytes) _ _ stands c.in_ok-places.ensures.are refl refl))
    c.put_list.ensures.is

pub returns-clause-grown : goal.returns-clause-grown
returns-clause-grown c =
    on_ok_weaker c.put_list.result
    (λ put source h.
    let first = c.in_ok-ty.ensures.grown source h in
    let both = grown_then source _ _ _ first (c.in_ok-places.ensures.grown source first.tables) in
    grown_then source _ _ _ both (put source both.tables))
    c.put_list.ensures.grown
