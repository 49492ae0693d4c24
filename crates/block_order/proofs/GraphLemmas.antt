-- Walks in graphs, and marks of nodes.
use Rattle.std.proofs.Common.{count_by, cond, not, false, ◌≡◌, ◌<◌, ◌+◌, ◌-◌, ℕ, zero, suc, Bool, true, List, [], ◌∷◌, ◌++◌, Some, length, slice_get, slice_set, get_or, sym, ap, ◌∙◌, refl, subst, arith, inl, inr, ◌⊎◌, Contains, add-one}
use Rattle.std.proofs.lemmas.List.{length_push, get_or-set_same, get_or-set_other, get_or_past}
use Rattle.std.proofs.lemmas.List.Sums.{sum_by-set}
use Rattle.std.proofs.lemmas.List.Elements.{All-contains}
use Rattle.std.proofs.lemmas.Option.{slice_get_within, slice_get-get_or, same_Some as same_some}
use Rattle.std.proofs.lemmas.Bool.{cases_eq, cases_lt}
use Rattle.block_order.specs.Graph.{IsGraph, LeadsTo, IsWalk, Reaches}
use Rattle.block_order.specs.Marks.{IsMet}
use Rattle.block_order.proofs.ListLemmas.{get-left, get-push, get-push_cases, contains_none}

pub target_within : (g : List (List ℕ)) (a b : ℕ) → IsGraph g → LeadsTo g a b → b < length g
target_within g a b graph leads =
    elim (cases_lt a (length g)) [
      | inl within ↦ All-contains (λ t. t < length g) (get_or g a []) b (graph a [] within) leads
      | inr past ↦ absurd (contains_none b (subst (λ ts. Contains ts b) (get_or_past g a [] past) leads))
    ]

-- ---- walks

pub walk_one : (g : List (List ℕ)) (a : ℕ) → IsWalk g a a (a ∷ [])
walk_one g a = record { begins = refl; ends = refl; steps = λ k x y e f. absurd (omega (arith, slice_get_within (a ∷ []) (k + 1) y f)) }

pub walk_push : (g : List (List ℕ)) (a b c : ℕ) (w : List ℕ) → IsWalk g a b w → LeadsTo g b c → IsWalk g a c (w ++ c ∷ [])
walk_push g a b c w walk leads = record {
  begins = get-left w (c ∷ []) 0 a walk.begins;
  ends = subst (λ n. slice_get (w ++ c ∷ []) n ≡ Some c) (omega (arith, length_push w c)) (get-push w c);
  steps = λ k x y e f.
      elim (get-push_cases w c (k + 1) y f) [
        | inl f' ↦ elim (get-push_cases w c k x e) [
          | inl e' ↦ walk.steps k x y e' f'
          | inr e' ↦ absurd (omega (arith, e'.0, slice_get_within w (k + 1) y f'))
        ]
        | inr f' ↦
            let at : k ≡ length w - 1 = omega (arith, f'.0) in
            elim (get-push_cases w c k x e) [
              | inl e' ↦
                  let same : b ≡ x = same_some b x (sym walk.ends ∙ (ap (slice_get w) (sym at) ∙ e')) in
                  subst (λ v. LeadsTo g v y) same (subst (λ v. LeadsTo g b v) f'.1 leads)
              | inr e' ↦ absurd (omega (arith, e'.0, f'.0))
            ]
      ];
}

pub reaches_itself : (g : List (List ℕ)) (a : ℕ) → Reaches g a a
reaches_itself g a = (a ∷ [], walk_one g a)

pub reaches_more : (g : List (List ℕ)) (a b c : ℕ) → Reaches g a b → LeadsTo g b c → Reaches g a c
reaches_more g a b c h leads = (h.0 ++ c ∷ [], walk_push g a b c h.0 h.1 leads)

-- what holds of a node, and of what a node leads to that it holds of, holds of what it reaches
pub holds_along : (g : List (List ℕ)) (P : ℕ → Type 0) (a b : ℕ) → P a → ((x y : ℕ) → P x → LeadsTo g x y → P y) → Reaches g a b → P b
holds_along g P a b here more h =
    upto (length h.0 - 1) b h.1.ends
  where
    upto : (k x : ℕ) → slice_get h.0 k ≡ Some x → P x
    upto zero x e = subst P (same_some a x (sym h.1.begins ∙ e)) here
    upto (suc k) x e =
        let within : k < length h.0 = omega (arith, slice_get_within h.0 (suc k) x e) in
        let at = slice_get-get_or h.0 k 0 within in
        more (get_or h.0 k 0) x (upto k (get_or h.0 k 0) at) (h.1.steps k (get_or h.0 k 0) x at (rw add-one e))

-- ---- marks

pub met-within : (met : List Bool) (x : ℕ) → IsMet met x → x < length met
met-within met x h =
    elim (cases_lt x (length met)) [
      | inl lt ↦ lt
      | inr past ↦ cc (h, get_or_past met x false past)
    ]

pub met_here : (met : List Bool) (x : ℕ) → x < length met → IsMet (slice_set met x true) x
met_here met x within = get_or-set_same met x true false within

pub met_more : (met : List Bool) (x y : ℕ) → IsMet met y → IsMet (slice_set met x true) y
met_more met x y h =
    elim (cases_eq y x) [
      | inl same ↦ subst (IsMet (slice_set met x true)) (sym same) (met_here met x (subst (λ v. v < length met) same (met-within met y h)))
      | inr other ↦ get_or-set_other met x y true false other ∙ h
    ]

pub met_cases : (met : List Bool) (x y : ℕ) → IsMet (slice_set met x true) y → IsMet met y ⊎ (y ≡ x)
met_cases met x y h =
    elim (cases_eq y x) [
      | inl same ↦ inr same
      | inr other ↦ inl (sym (get_or-set_other met x y true false other) ∙ h)
    ]

-- how many nodes are not met
abbrev pub unmet_count : List Bool → ℕ
unmet_count met = count_by not met

-- one where a mark is missing
abbrev one_unmet : Bool → ℕ
one_unmet b = cond (not b) 1 0

counts_one : (b : Bool) → (b ≡ true → ⊥) → one_unmet b ≡ 1
counts_one true ne = absurd (ne refl)
counts_one false ne = refl

pub count_met : (met : List Bool) (x : ℕ) → x < length met → ¬ IsMet met x → unmet_count (slice_set met x true) + 1 ≡ unmet_count met
count_met met x within unmet = omega (arith, sum_by-set one_unmet met x true false within, counts_one (get_or met x false) unmet)
