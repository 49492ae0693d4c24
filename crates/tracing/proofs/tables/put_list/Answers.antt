-- What `tables::put_list` owes besides what the check finds.
use Rattle.std.proofs.Common.{◌≡◌, ℕ, List, Option, Some, map, sym, ap, ◌∙◌}
use Rattle.std.proofs.lemmas.Result.{IfOk-weaker}
use Rattle.kinds.specs.declared.fill.Fill.{Fill}
use Rattle.llvm_core.specs.Consts.{common_fill}
use Rattle.llvm_core.specs.Data.{type_at}
use Rattle.meaning.specs.Terms.{Term, terms_of}
use Rattle.meaning.specs.Constants.{fills_of}
use Rattle.tracing.specs.Table.{term_at, terms, fills_at}
use Rattle.tracing.specs.TypePlaces.{trees_in}
use Rattle.tracing.proofs.ConstLaws.{fills_are, list_by}
use Rattle.tracing.proofs.tables.put_list.Goals as goal

-- what is found of places by a slice of them
shown : (ts : List Term) (ks slice : List ℕ) (found o : Option Fill) → found ≡ common_fill (fills_at ts slice) → slice ≡ ks → found ≡ o → common_fill (fills_of (terms_of (map (term_at ts) ks))) ≡ o
shown ts ks slice found o is same e = ap common_fill (sym (fills_are ts ks)) ∙ ap (λ (l : List ℕ). common_fill (fills_at ts l)) (sym same) ∙ sym is ∙ e

pub returns-in-Some-clause-is : goal.returns-in-Some-clause-is
returns-in-Some-clause-is c =
    let trees = trees_in c.args.tables.now.types in
    let ts = terms trees c.args.tables.now.terms in
    let is = shown ts c.args.places.items _ _ _ (c.common_fill.ensures trees) c.as_slice.ensures.value c.in-Some.is in
    IfOk-weaker c.put.result _ _ (λ k at. at ∙ ap Some (sym (list_by (type_at trees c.args.ty) (terms_of (map (term_at ts) c.args.places.items)) _ is))) c.put.ensures.is

pub returns-in-None-clause-is : goal.returns-in-None-clause-is
returns-in-None-clause-is c =
    let trees = trees_in c.args.tables.now.types in
    let ts = terms trees c.args.tables.now.terms in
    let is = shown ts c.args.places.items _ _ _ (c.common_fill.ensures trees) c.as_slice.ensures.value c.in-None.is in
    let put = rw c.from_vec.ensures at c.put-in-None.ensures.is in
    IfOk-weaker c.put-in-None.result _ _ (λ k at. at ∙ ap Some (sym (list_by (type_at trees c.args.ty) (terms_of (map (term_at ts) c.args.places.items)) _ is))) put
