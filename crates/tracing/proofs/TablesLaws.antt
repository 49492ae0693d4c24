-- Tables of types and of terms that grow together.
use Rattle.std.proofs.Common.{◌≡◌, ◌<◌, ℕ, suc, Bool, true, false, List, [], ◌∷◌, ◌++◌, Some, length, map, take, get_or, ◌+◌, slice_get, refl, sym, ap, subst, ◌∙◌, if◌then◌else◌}
use Rattle.std.specs.Prelude.{nat_eq}
use Rattle.std.proofs.lemmas.Bool.{eqb-true}
use Rattle.std.proofs.lemmas.Option.{same_Some, slice_get_within, slice_get-get_or}
use Rattle.support.specs.NumberMaps.{value_at}
use Rattle.llvm_core.specs.declared.numbers.LLVMType.{LLVMType}
use Rattle.llvm_core.specs.Data.{TypeTree, VoidType, trees_after, type_at}
use Rattle.meaning.specs.Terms as M
use Rattle.meaning.specs.Terms.{Term, Terms, terms_of}
use Rattle.meaning.specs.Constants.{list_term, splat_term}
use Rattle.meaning.proofs.MatchedLaws.{matched_push}
use Rattle.tracing.specs.declared.table.TermNode.{TermNode}
use Rattle.tracing.specs.declared.table.TermNode.TheVariants as N
use Rattle.tracing.specs.declared.type_places.TypePlaces.{TypePlaces}
use Rattle.tracing.specs.declared.tables.Tables.{Tables}
use Rattle.tracing.specs.Types.{KeepsTypes, Stands}
use Rattle.tracing.specs.Table.{term_at, terms, node_term, HasTypeBelow, AreTyped, Gives, IsTermAt, AreTermsAt, KeepsTerms}
use Rattle.tracing.specs.TypePlaces.{trees_in, ArePlacesOf, IsGrown}
use Rattle.tracing.specs.Contents.{Contents, KeepsContents, over}
use Rattle.tracing.specs.Tables.{Origin, contents_in, AreTables, AreGrown}
use Rattle.tracing.proofs.TableLaws.{kept_term}
use Rattle.tracing.proofs.GrowLaws.{stands_at, term_stands, same_kept, then_kept}
use Rattle.tracing.proofs.ListLaws.{listed_more}

-- ---- the terms of nodes, while the types grow

module _ (old new : List TypeTree) (keeps : KeepsTypes old new) where
  stays : (t : LLVMType) → t.0 < length old → slice_get new t.0 ≡ Some (type_at old t)
  stays t lt = keeps t.0 (type_at old t) (slice_get-get_or old t.0 VoidType lt)

  type_kept : (t : LLVMType) → t.0 < length old → type_at new t ≡ type_at old t
  type_kept t lt = stands_at new t (type_at old t) (stays t lt)

  type_below : (t : LLVMType) → t.0 < length old → t.0 < length new
  type_below t lt = slice_get_within new t.0 (type_at old t) (stays t lt)

  node_kept : (done : List Term) (x : TermNode) → HasTypeBelow (length old) x → node_term new done x ≡ node_term old done x
  node_kept done (N.Param i) h = refl
  node_kept done (N.Answer n) h = refl
  node_kept done N.Unset h = refl
  node_kept done (N.Int w v) h = refl
  node_kept done (N.Filled fill ty) h = ap (M.Filled fill) (type_kept ty h)
  node_kept done (N.ListOf ty ks) h = ap (λ (t : TypeTree). M.ListOf t (terms_of (map (term_at done) ks))) (type_kept ty h)
  node_kept done (N.SplatOf ty k) h = ap (λ (t : TypeTree). M.SplatOf t (term_at done k)) (type_kept ty h)
  node_kept done (N.Expr o ty ks) h = ap (λ (t : TypeTree). M.Expr o t (terms_of (map (term_at done) ks))) (type_kept ty h)

  after_kept : (done : List Term) (ns : List TermNode) → AreTyped (length old) ns → trees_after (node_term new) done ns ≡ trees_after (node_term old) done ns
  after_kept done [] typed = refl
  after_kept done (x ∷ ns) typed =
      ap (λ (t : Term). trees_after (node_term new) (done ++ t ∷ []) ns) (node_kept done x (typed 0 x refl))
      ∙ after_kept (done ++ node_term old done x ∷ []) ns (λ i y at. typed (suc i) y at)

  pub terms_kept : (ns : List TermNode) → AreTyped (length old) ns → terms new ns ≡ terms old ns
  terms_kept ns typed = after_kept [] ns typed

  node_typed : (x : TermNode) → HasTypeBelow (length old) x → HasTypeBelow (length new) x
  node_typed (N.Param i) h = tt
  node_typed (N.Answer n) h = tt
  node_typed N.Unset h = tt
  node_typed (N.Int w v) h = tt
  node_typed (N.Filled fill ty) h = type_below ty h
  node_typed (N.ListOf ty ks) h = type_below ty h
  node_typed (N.SplatOf ty k) h = type_below ty h
  node_typed (N.Expr o ty ks) h = type_below ty h

  pub typed_kept : (ns : List TermNode) → AreTyped (length old) ns → AreTyped (length new) ns
  typed_kept ns typed i x at = node_typed x (typed i x at)

-- ---- tables that grow

pub grown_same : (source : Origin) (t : Tables) → AreTables source t → AreGrown source t t
grown_same source t h = record { kept = same_kept (contents_in t); tables = h }

pub grown_then : (source : Origin) (a b c : Tables) → AreGrown source a b → AreGrown source b c → AreGrown source a c
grown_then source a b c first second = record { kept = then_kept (contents_in a) (contents_in b) (contents_in c) first.kept second.kept; tables = second.tables }

-- the types alone have grown
pub types_grown : (source : Origin) (old new : Tables) → new.terms ≡ old.terms → new.constants ≡ old.constants → IsGrown source.types old.types new.types → AreTables source old → AreGrown source old new
types_grown source old new nodes constants grown h =
    let same : (contents_in new).terms ≡ (contents_in old).terms = ap (terms (trees_in new.types)) nodes ∙ terms_kept (trees_in old.types) (trees_in new.types) grown.kept old.terms h.typed in
    record {
      kept = (grown.kept, λ k t at. ap (λ (ts : List Term). slice_get ts k) same ∙ at);
      tables = record {
        types = grown.places;
        typed = subst (AreTyped (length (trees_in new.types))) (sym nodes) (typed_kept (trees_in old.types) (trees_in new.types) grown.kept old.terms h.typed);
        constants = λ q k at. ap (λ (ts : List Term). slice_get ts k) same ∙ h.constants q k (ap (λ m. value_at m q) (sym constants) ∙ at);
      };
    }

-- a term alone has come
pub terms_grown : (source : Origin) (old new : Tables) (k : ℕ) (t : Term) → new.types ≡ old.types → new.constants ≡ old.constants → Gives (trees_in old.types) old.terms new.terms k t → AreTyped (length (trees_in old.types)) new.terms → AreTables source old → AreGrown source old new
terms_grown source old new k t types constants gives typed h =
    let trees = trees_in old.types in
    let keeps : KeepsTerms (terms trees old.terms) (terms trees new.terms) = λ j u at. ap (λ (ns : List TermNode). slice_get (terms trees ns) j) gives.grown ∙ kept_term trees old.terms gives.more j u at in
    record {
      kept = (
        subst (λ (p : TypePlaces). KeepsTypes trees (trees_in p)) (sym types) (λ j u at. at),
        subst (λ (p : TypePlaces). KeepsTerms (terms trees old.terms) (terms (trees_in p) new.terms)) (sym types) keeps,
      );
      tables = record {
        types = subst (ArePlacesOf source.types) (sym types) h.types;
        typed = subst (λ (p : TypePlaces). AreTyped (length (trees_in p)) new.terms) (sym types) typed;
        constants = λ q j at. subst (λ (p : TypePlaces). IsTermAt (terms (trees_in p) new.terms) j (source.term q)) (sym types) (keeps j (source.term q) (h.constants q j (ap (λ m. value_at m q) (sym constants) ∙ at)));
      };
    }

-- a constant has got its place
pub noted_grown : (source : Origin) (old new : Tables) (number place : ℕ) → new.types ≡ old.types → new.terms ≡ old.terms → ((q : ℕ) → value_at new.constants q ≡ (if nat_eq number q then Some place else value_at old.constants q))
    → AreTables source old → IsTermAt (contents_in old).terms place (source.term number) → AreGrown source old new
noted_grown source old new number place types nodes updates h here =
    let same : contents_in new ≡ contents_in old = ap (λ (p : TypePlaces). over (trees_in p) new.terms) types ∙ ap (over (trees_in old.types)) nodes in
    record {
      kept = subst (KeepsContents (contents_in old)) (sym same) (same_kept (contents_in old));
      tables = record {
        types = subst (ArePlacesOf source.types) (sym types) h.types;
        typed = subst (λ (p : TypePlaces). AreTyped (length (trees_in p)) new.terms) (sym types) (subst (AreTyped (length (trees_in old.types))) (sym nodes) h.typed);
        constants = λ q k at. subst (λ (d : Contents). IsTermAt d.terms k (source.term q)) (sym same) (by (nat_eq number q) q k refl (sym (updates q) ∙ at));
      };
    }
  where
    by : (b : Bool) (q k : ℕ) → nat_eq number q ≡ b → (if b then Some place else value_at old.constants q) ≡ Some k → IsTermAt (contents_in old).terms k (source.term q)
    by true q k e at = subst (λ (j : ℕ). IsTermAt (contents_in old).terms j (source.term q)) (same_Some place k at) (subst (λ (n : ℕ). IsTermAt (contents_in old).terms place (source.term n)) (eqb-true number q e) here)
    by false q k e at = h.constants q k at

-- ---- terms at places

-- terms that stand are what is looked up
pub looked_up : (ts : List Term) (ks : List ℕ) (us : List Term) → AreTermsAt ts ks us → map (term_at ts) ks ≡ us
looked_up ts [] [] h = refl
looked_up ts (k ∷ ks) (u ∷ us) h = let e = term_stands ts k u h.0 in let rest = looked_up ts ks us h.1 in cc
looked_up ts [] (u ∷ us) h = elim h [ ]
looked_up ts (k ∷ ks) [] h = elim h [ ]

pub terms_stay : (old new : List Term) → KeepsTerms old new → (ks : List ℕ) (us : List Term) → AreTermsAt old ks us → AreTermsAt new ks us
terms_stay old new keeps [] [] h = tt
terms_stay old new keeps (k ∷ ks) (u ∷ us) h = (keeps k u h.0, terms_stay old new keeps ks us h.1)
terms_stay old new keeps [] (u ∷ us) h = elim h [ ]
terms_stay old new keeps (k ∷ ks) [] h = elim h [ ]

-- one term more stands
pub terms_more : {X : Type 0} (g : X → Term) (old new : List Term) (ks : List ℕ) (k : ℕ) (xs : List X) (i : ℕ) (d : X) → i < length xs → KeepsTerms old new → AreTermsAt old ks (map g (take i xs)) → IsTermAt new k (g (get_or xs i d))
    → AreTermsAt new (ks ++ k ∷ []) (map g (take (i + 1) xs))
terms_more g old new ks k xs i d lt keeps before here =
    subst (AreTermsAt new (ks ++ k ∷ [])) (listed_more g (map g (take i xs)) xs i d lt refl) (matched_push (IsTermAt new) ks (map g (take i xs)) k (g (get_or xs i d)) (terms_stay old new keeps ks (map g (take i xs)) before) here)

-- the list and the vector of what stands in tables
pub list_stands : (now : Contents) (place : LLVMType) (type : TypeTree) (ks : List ℕ) (us : List Term) (vs : Terms) (t : Term) → Stands now.types place type → AreTermsAt now.terms ks us → terms_of us ≡ vs → t ≡ list_term type vs
    → list_term (type_at now.types place) (terms_of (map (term_at now.terms) ks)) ≡ t
list_stands now place type ks us vs t stands are same is =
    ap (λ (u : TypeTree). list_term u (terms_of (map (term_at now.terms) ks))) (stands_at now.types place type stands)
    ∙ ap (list_term type) (ap terms_of (looked_up now.terms ks us are) ∙ same)
    ∙ sym is

pub splat_stands : (now : Contents) (place : LLVMType) (type : TypeTree) (k : ℕ) (u t : Term) → Stands now.types place type → IsTermAt now.terms k u → t ≡ splat_term type u → splat_term (type_at now.types place) (term_at now.terms k) ≡ t
splat_stands now place type k u t stands at is =
    ap (λ (v : TypeTree). splat_term v (term_at now.terms k)) (stands_at now.types place type stands) ∙ ap (splat_term type) (term_stands now.terms k u at) ∙ sym is
