-- The names of structs by their list: no two names have one identifier.
use Rattle.std.proofs.Common.{◌≡◌, ◌≢◌, ℕ, suc, zero, Bool, true, false, if◌then◌else◌, List, [], ◌∷◌, Some, slice_get, refl, sym, ap, ◌∙◌, subst, inl, inr, ◌⊎◌}
use Rattle.std.specs.Str.{bytes_eq}
use Rattle.std.proofs.lemmas.Option.{same_Some}
use Rattle.std.proofs.lemmas.Slice.Eq.{bytes_eq-Decides}
use Rattle.llvm_core.proofs.DataLemmas.{within_at}
use Rattle.dialect_types.specs.Names.{IsIdentifier}
use Rattle.renamed_source.specs.Names.{struct_name, AreStructNames}
use Rattle.renamed_source.proofs.KindLaws.{mapped_at}

-- the name is listed at a place, with the identifier that it has
record IsListed (pairs : List (List ℕ × List ℕ)) (n : List ℕ) : Type 0 where
  place : ℕ
  pair : List ℕ × List ℕ
  here : slice_get pairs place ≡ Some pair
  name : pair.0 ≡ n
  called : struct_name pairs n ≡ pair.1

-- the name is listed nowhere
record IsUnlisted (pairs : List (List ℕ × List ℕ)) (n : List ℕ) : Type 0 where
  nowhere : (i : ℕ) (p : List ℕ × List ℕ) → slice_get pairs i ≡ Some p → p.0 ≢ n
  called : struct_name pairs n ≡ 0 ∷ n

found : (pairs : List (List ℕ × List ℕ)) (n : List ℕ) → IsListed pairs n ⊎ IsUnlisted pairs n
found [] n = inr (record { nowhere = λ i p at e. cc; called = refl })
found (q ∷ pairs) n = by (bytes_eq q.0 n) refl (found pairs n)
  where
    by : (b : Bool) → bytes_eq q.0 n ≡ b → IsListed pairs n ⊎ IsUnlisted pairs n → IsListed (q ∷ pairs) n ⊎ IsUnlisted (q ∷ pairs) n
    by true e rest = inl (record { place = 0; pair = q; here = refl; name = (bytes_eq-Decides q.0 n).0 e; called = ap (λ (b : Bool). if b then q.1 else struct_name pairs n) e })
    by false e (inl l) = inl (record { place = suc l.place; pair = l.pair; here = l.here; name = l.name; called = ap (λ (b : Bool). if b then q.1 else struct_name pairs n) e ∙ l.called })
    by false e (inr l) = inr (record { nowhere = elsewhere e l.nowhere; called = ap (λ (b : Bool). if b then q.1 else struct_name pairs n) e ∙ l.called })
      where
        elsewhere : bytes_eq q.0 n ≡ false → ((i : ℕ) (p : List ℕ × List ℕ) → slice_get pairs i ≡ Some p → p.0 ≢ n) → (i : ℕ) (p : List ℕ × List ℕ) → slice_get (q ∷ pairs) i ≡ Some p → p.0 ≢ n
        elsewhere e rest zero p at is = let same = (bytes_eq-Decides q.0 n).1 (ap (λ (r : List ℕ × List ℕ). r.0) (same_Some q p at) ∙ is) in cc
        elsewhere e rest (suc i) p at is = rest i p at is

-- no identifier begins with the byte 0
not_called : (n i : List ℕ) → IsIdentifier i → i ≡ 0 ∷ n → ⊥
not_called n i legal e = let no : false ≡ true = (subst IsIdentifier e legal).0 in cc

module _ (pairs : List (List ℕ × List ℕ)) (h : AreStructNames pairs) where
  abbrev first_of : List ℕ × List ℕ → List ℕ
  first_of p = p.0

  abbrev second_of : List ℕ × List ℕ → List ℕ
  second_of p = p.1

  legal_at : (i : ℕ) (p : List ℕ × List ℕ) → slice_get pairs i ≡ Some p → IsIdentifier p.1
  legal_at i p at = within_at pairs (λ (p : List ℕ × List ℕ). IsIdentifier p.1) h.legal i p at

  -- a pair is known by its name, and by its identifier
  by_name : (i j : ℕ) (p q : List ℕ × List ℕ) → slice_get pairs i ≡ Some p → slice_get pairs j ≡ Some q → p.0 ≡ q.0 → p ≡ q
  by_name i j p q at also e =
      let same : i ≡ j = h.names i j p.0 (mapped_at first_of pairs i p at) (mapped_at first_of pairs j q also ∙ ap Some (sym e)) in
      same_Some p q (sym at ∙ ap (slice_get pairs) same ∙ also)

  by_identifier : (i j : ℕ) (p q : List ℕ × List ℕ) → slice_get pairs i ≡ Some p → slice_get pairs j ≡ Some q → p.1 ≡ q.1 → p ≡ q
  by_identifier i j p q at also e =
      let same : i ≡ j = h.identifiers i j p.1 (mapped_at second_of pairs i p at) (mapped_at second_of pairs j q also ∙ ap Some (sym e)) in
      same_Some p q (sym at ∙ ap (slice_get pairs) same ∙ also)

  -- what a listed name is called
  pub struct_name_listed : (i : ℕ) (p : List ℕ × List ℕ) → slice_get pairs i ≡ Some p → struct_name pairs p.0 ≡ p.1
  struct_name_listed i p at = by (found pairs p.0)
    where
      by : IsListed pairs p.0 ⊎ IsUnlisted pairs p.0 → struct_name pairs p.0 ≡ p.1
      by (inl l) = l.called ∙ ap second_of (by_name l.place i l.pair p l.here at l.name)
      by (inr l) = absurd (l.nowhere i p at refl)

  -- what is called by an identifier is listed
  pub struct_name_legal : (n : List ℕ) → IsIdentifier (struct_name pairs n) → (i : ℕ) × (slice_get pairs i ≡ Some (n, struct_name pairs n))
  struct_name_legal n legal = by (found pairs n)
    where
      by : IsListed pairs n ⊎ IsUnlisted pairs n → (i : ℕ) × (slice_get pairs i ≡ Some (n, struct_name pairs n))
      by (inl l) = (l.place, l.here ∙ ap (λ (m : List ℕ). Some (m, l.pair.1)) l.name ∙ ap (λ (i : List ℕ). Some (n, i)) (sym l.called))
      by (inr l) = absurd (not_called n (struct_name pairs n) legal l.called)

  pub struct_name_injective : (a b : List ℕ) → struct_name pairs a ≡ struct_name pairs b → a ≡ b
  struct_name_injective a b e = by (found pairs a) (found pairs b)
    where
      by : IsListed pairs a ⊎ IsUnlisted pairs a → IsListed pairs b ⊎ IsUnlisted pairs b → a ≡ b
      by (inl x) (inl y) = sym x.name ∙ ap first_of (by_identifier x.place y.place x.pair y.pair x.here y.here (sym x.called ∙ e ∙ y.called)) ∙ y.name
      by (inl x) (inr y) = absurd (not_called b x.pair.1 (legal_at x.place x.pair x.here) (sym x.called ∙ e ∙ y.called))
      by (inr x) (inl y) = absurd (not_called a y.pair.1 (legal_at y.place y.pair y.here) (sym y.called ∙ sym e ∙ x.called))
      by (inr x) (inr y) = let same : 0 ∷ a ≡ 0 ∷ b = sym x.called ∙ e ∙ y.called in cc
