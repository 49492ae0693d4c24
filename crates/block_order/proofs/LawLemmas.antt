-- A graph has one depth-first order, and the front of an order stands before its rest.
use Rattle.std.proofs.Common.{◌+◌, ◌-◌, Contains, take, drop, arith, inl, inr, length-take, length-drop, ◌≡◌, ℕ, Bool, true, false, List, [], ◌∷◌, ◌++◌, length, replicate, slice_set, get_or, sym, ap, ◌∙◌, refl, subst}
use Rattle.std.specs.List.{range_with_len}
use Rattle.std.proofs.lemmas.List.{get_or-take, get_or-drop}
use Rattle.std.proofs.lemmas.Bool.{cases_lt}
use Rattle.block_order.specs.Graph.{Reaches}
use Rattle.block_order.specs.Order.{IsBefore, HasReachedFirst}
use Rattle.block_order.proofs.ListLemmas.{found_at}
use Rattle.block_order.specs.DepthFirst.{Explores, ends, passes, enters, ExploresEach, no_root, next_root, IsDepthFirst}

-- a visit of the same nodes from the same marks lists the same and leaves the same marks
one_visit : (g : List (List ℕ)) (met : List Bool) (xs out : List ℕ) (after : List Bool) (out' : List ℕ) (after' : List Bool) → Explores g met xs out after → Explores g met xs out' after' → (out ≡ out') × (after ≡ after')
one_visit g met xs out after out' after' (ends m) (ends m') = (refl, refl)
one_visit g met xs out after out' after' (passes m a x ys o here d) (passes m' a' x' ys' o' here' d') = one_visit g m ys o a o' a' d d'
one_visit g met xs out after out' after' (passes m a x ys o here d) (enters m' i' a' x' ys' inner' outer' new' d' e') = absurd (new' here)
one_visit g met xs out after out' after' (enters m i a x ys inner outer new d e) (passes m' a' x' ys' o' here' d') = absurd (new here')
one_visit g met xs out after out' after' (enters m i a x ys inner outer new d e) (enters m' i' a' x' ys' inner' outer' new' d' e') =
    let first = one_visit g (slice_set m x true) (get_or g x []) inner i inner' i' d d' in
    let second = one_visit g i ys outer a outer' a' e (subst (λ marks. Explores g marks ys outer' a') (sym first.1) e') in
    (ap (λ zs. zs ++ x ∷ inner) second.0 ∙ ap (λ zs. outer' ++ x ∷ zs) first.0, second.1)

one_each : (g : List (List ℕ)) (met : List Bool) (roots a b : List ℕ) → ExploresEach g met roots a → ExploresEach g met roots b → a ≡ b
one_each g met roots a b (no_root m) (no_root m') = refl
one_each g met roots a b (next_root m i root rs part rest d e) (next_root m' i' root' rs' part' rest' d' e') =
    let first = one_visit g m (root ∷ []) part i part' i' d d' in
    let second = one_each g i rs rest rest' e (subst (λ marks. ExploresEach g marks rs rest') (sym first.1) e') in
    ap (λ zs. zs ++ rest) first.0 ∙ ap (λ zs. part' ++ zs) second

pub one_order : (g : List (List ℕ)) (a b : List ℕ) → IsDepthFirst g a → IsDepthFirst g b → a ≡ b
one_order g a b d e = one_each g (replicate (length g) false) (range_with_len 0 (length g)) a b d e

-- what node 0 reaches stands before what it does not reach
pub reached_before : (g : List (List ℕ)) (order : List ℕ) (u v : ℕ) → HasReachedFirst g order → Contains order u → Contains order v → Reaches g 0 u → ¬ Reaches g 0 v → IsBefore order u v
reached_before g order u v f here there reached unreached =
    elim (cases_lt here.0 f.0) [
      | inl in_front ↦ elim (cases_lt there.0 f.0) [
        | inl both ↦
            let at : get_or (take f.0 order) there.0 v ≡ v = get_or-take f.0 order there.0 v both ∙ there.2 in
            absurd (unreached (subst (Reaches g 0) at (f.1 there.0 v (omega (arith, length-take f.0 order, there.1)))))
        | inr behind ↦ record {
          place = here.0;
          later = there.0;
          in_order = omega arith;
          is_first = found_at order u here;
          is_second = found_at order v there;
        }
      ]
      | inr past ↦
          let k : ℕ = here.0 - f.0 in
          let place : f.0 + k ≡ here.0 = omega arith in
          let at : get_or (drop f.0 order) k u ≡ u = get_or-drop f.0 order k u ∙ (ap (λ i. get_or order i u) place ∙ here.2) in
          absurd (f.2 k u (omega (arith, length-drop f.0 order, here.1)) (subst (Reaches g 0) (sym at) reached))
    ]
