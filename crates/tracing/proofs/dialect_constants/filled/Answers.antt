-- What `dialect_constants::filled` owes besides what the check finds.
use Rattle.std.proofs.Common.{ℕ, List, Some, ap, sym, ◌∙◌}
use Rattle.std.proofs.lemmas.Option.{slice_get_within}
use Rattle.std.proofs.lemmas.Result.{IfOk-weaker, on_ok_weaker}
use Rattle.kinds.specs.Fill.{is_own_fill}
use Rattle.kinds.specs.Types.{shape}
use Rattle.dialect_types.specs.declared.types.TypeKind.{TypeKind}
use Rattle.dialect_types.specs.Trees.{type_at, type_trees}
use Rattle.meaning.specs.Terms as M
use Rattle.tracing.specs.TypePlaces.{trees_in}
use Rattle.tracing.proofs.ConstLaws.{filled_by}
use Rattle.tracing.proofs.GrowLaws.{stands_at}
use Rattle.tracing.proofs.TablesLaws.{grown_then}
use Rattle.tracing.proofs.dialect_constants.filled.Goals as goal

pub put-requires-clause-typed : goal.put-requires-clause-typed
put-requires-clause-typed c = slice_get_within _ _ _ c.in_ok-place.ensures.stands

pub returns-in_ok-place-clause-is : goal.returns-in_ok-place-clause-is
returns-in_ok-place-clause-is c =
    let shape_is = c.shape_at.ensures ∙ ap (λ (ks : List TypeKind). shape (type_at (type_trees ks) c.args.ty)) c.types.ensures in
    let own = sym (ap (is_own_fill c.args.fill) shape_is) ∙ sym c.is_own.ensures ∙ c.if-is_own.true in
    let is = ap (M.Filled c.args.fill) (stands_at (trees_in c.type_place.new.tables.types) c.in_ok-place.place _ c.in_ok-place.ensures.stands) ∙ sym (filled_by c.args.fill _ _ own) in
    IfOk-weaker c.put.result _ _ (λ k at. at ∙ ap Some is) c.put.ensures.is

pub returns-in_ok-place-clause-grown : goal.returns-in_ok-place-clause-grown
returns-in_ok-place-clause-grown c =
    let grown = c.in_ok-place.ensures.grown in
    on_ok_weaker c.put.result (λ put. grown_then _ _ _ _ grown (put _ grown.tables)) c.put.ensures.grown

pub returns-else-is_own-clause-is : goal.returns-else-is_own-clause-is
returns-else-is_own-clause-is c =
    let shape_is = c.shape_at.ensures ∙ ap (λ (ks : List TypeKind). shape (type_at (type_trees ks) c.args.ty)) c.types.ensures in
    let own = sym (ap (is_own_fill c.args.fill) shape_is) ∙ sym c.is_own.ensures ∙ c.if-is_own.false in
    let is = ap (λ (w : ℕ). M.Int w 0) c.width_of.ensures ∙ sym (filled_by c.args.fill _ _ own) in
    IfOk-weaker c.put-else-is_own.result _ _ (λ k at. at ∙ ap Some is) c.put-else-is_own.ensures.is

pub returns-else-is_own-clause-grown : goal.returns-else-is_own-clause-grown
returns-else-is_own-clause-grown c = on_ok_weaker c.put-else-is_own.result (λ put. put _ c.requires.tables) c.put-else-is_own.ensures.grown
