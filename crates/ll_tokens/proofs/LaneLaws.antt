-- From the mask of sixteen bytes to a run of bytes.
use Rattle.std.proofs.Common.{◌≡◌, ℕ, zero, suc, ◌+◌, ◌%◌, ◌^◌, ◌<◌, ◌≤◌, Bool, true, false, not, ◌||◌, List, [], ◌∷◌, map, length, get_or, drop, replicate, Fits, w8, refl, sym, ap, ap₂, ◌∙◌, subst, arith, inl, inr}
use Rattle.std.proofs.lemmas.Bool.{agree_below, agree_below_at, not-true, cases_eq, eq-eqb, ne_eqb, cond-true, cond-false}
use Rattle.std.proofs.lemmas.Simd.{map-map, mask_l-mod, length-chunk, get_or-chunk, leading_from_mask_l, trailing_mask_l}
use Rattle.std.proofs.lemmas.List.{length-map}
use Rattle.std.proofs.lemmas.List.Sums.{prefix_len-le-length, prefix_len_passes}
use Rattle.std.specs.List.{prefix_len}
use Rattle.ll_tokens.specs.Runs.{first_set}
use lib.Lanes.{chunk, zip2, mask_l, top}

zip2-map : (h : ℕ → ℕ → ℕ) (f g : ℕ → ℕ) (xs : List ℕ) → zip2 h (map f xs) (map g xs) ≡ map (λ x. h (f x) (g x)) xs
zip2-map h f g [] = refl
zip2-map h f g (x ∷ xs) = ap (λ r. h (f x) (g x) ∷ r) (zip2-map h f g xs)

-- an operation on two vectors that were computed lane by lane from v
pub joined : (h : ℕ → ℕ → ℕ) (f g : ℕ → ℕ) (v : List ℕ) {a b : List ℕ} → a ≡ map f v → b ≡ map g v → zip2 h a b ≡ map (λ x. h (f x) (g x)) v
joined h f g v p q = ap₂ (zip2 h) p q ∙ zip2-map h f g v

pub splat_is : (v : List ℕ) (n y : ℕ) → length v ≡ n → replicate n y ≡ map (λ _. y) v
splat_is [] n y e = ap (λ k. replicate k y) (sym e)
splat_is (x ∷ xs) n y e = ap (λ k. replicate k y) (sym e) ∙ ap (λ r. y ∷ r) (splat_is xs (length xs) y refl)

run_is : (p : ℕ → Bool) (v : List ℕ) (n : ℕ) → length v ≡ n → n ≤ 64 → first_set (mask_l (map p v)) n ≡ prefix_len (λ x. not (p x)) v
run_is p v n long few =
    elim (cases_eq (mask_l (map p v)) 0) [
      | inl none ↦ cond-true _ _ _ (eq-eqb _ _ none) ∙ sym (leading_from_mask_l p v none ∙ long)
      | inr some ↦ cond-false _ _ _ (ne_eqb _ _ some) ∙ trailing_mask_l p 64 v (omega arith) (omega arith)
    ]

-- where bytes at the front pass, a run is that much longer than behind them
pub over : (q : ℕ → Bool) (xs : List ℕ) (r : ℕ) → r ≤ length xs → ((k : ℕ) → k < r → q (get_or xs k 0) ≡ true) → prefix_len q xs ≡ r + prefix_len q (drop r xs)
over q xs zero le pass = omega arith
over q [] (suc r) le pass = absurd (omega arith)
over q (x ∷ xs) (suc r) le pass =
    let first : q x ≡ true = pass 0 (omega arith) in
    let rest : prefix_len q xs ≡ r + prefix_len q (drop r xs) = over q xs r (omega arith) (λ k less. pass (suc k) (omega arith)) in
    rw first (omega arith)

module _ (q : ℕ → Bool) (d : List ℕ) (n r : ℕ) (z : List ℕ) (room : n ≤ length d) (few : n ≤ 64)
    (fits : (k : ℕ) → Fits w8 (get_or d k 0)) (found : r ≡ first_set (mask_l (map (top 7) z) % 2 ^ 64) n)
    (f : ℕ → ℕ) (lanes : z ≡ map f (chunk 0 n d)) where
  abbrev stops : ℕ → Bool
  stops x = top 7 (f x)

  long : length (chunk 0 n d) ≡ n
  long = length-chunk 0 n d (omega arith)

  counted : r ≡ prefix_len (λ x. not (stops x)) (chunk 0 n d)
  counted =
      let v = chunk 0 n d in
      let mask = ap (λ l. mask_l l % 2 ^ 64) (ap (map (top 7)) lanes ∙ map-map (top 7) f v) ∙ mask_l-mod (map stops v) 64 (omega (arith, length-map v stops, long)) in
      found ∙ ap (λ m. first_set m n) mask ∙ run_is stops v n long few

  pub short : r ≤ n
  short = omega (arith, counted, long, prefix_len-le-length (λ x. not (stops x)) (chunk 0 n d))

  goes_on : (k : ℕ) → k < r → stops (get_or d k 0) ≡ false
  goes_on k to =
      let le = short in
      let back : 0 + k ≡ k = omega arith in
      let at = get_or-chunk 0 n d k 0 (omega (arith, long)) ∙ ap (λ j. get_or d j 0) back in
      subst (λ x. stops x ≡ false) at (not-true _ (prefix_len_passes (λ x. not (stops x)) (chunk 0 n d) k 0 (omega (arith, counted))))

  -- each byte at which no lane stops passes q
  pub passes : agree_below (λ x. stops x || q x) (λ _. true) 256 ≡ true → prefix_len q d ≡ r + prefix_len q (drop r d)
  passes all = let le = short in over q d r (omega arith) (λ k to. sym (ap (λ b. b || q (get_or d k 0)) (goes_on k to)) ∙ agree_below_at (λ x. stops x || q x) (λ _. true) 256 (get_or d k 0) all (fits k).fits)
