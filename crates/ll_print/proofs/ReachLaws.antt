-- How far numbers lead: what those of a list are all below.
use Rattle.std.proofs.Common.{◌<◌, ◌≤◌, ℕ, zero, suc, max, List, [], ◌∷◌, All, length, get_or, arith}
use Rattle.std.proofs.lemmas.List.Elements.{All-head, All-tail, All-weaker}

module _ {X : Type 0} (number : X → ℕ) where
  -- the least number that all of these are below
  abbrev pub reach : List X → ℕ
  reach [] = 0
  reach (x ∷ xs) = max (suc (number x)) (reach xs)

  pub reach_most : (n : ℕ) (xs : List X) → All (λ x. number x < n) xs → reach xs ≤ n
  reach_most n [] h = omega arith
  reach_most n (x ∷ xs) h = omega (arith, All-head (λ x. number x < n) x xs h, reach_most n xs (All-tail (λ x. number x < n) x xs h))

  pub reach_at : (xs : List X) (i : ℕ) (d : X) → i < length xs → number (get_or xs i d) < reach xs
  reach_at [] i d h = absurd (omega arith)
  reach_at (x ∷ xs) zero d h = omega arith
  reach_at (x ∷ xs) (suc i) d h = omega (arith, reach_at xs i d (omega arith))

  -- parts of what is there are there
  pub parts_there : (n m : ℕ) (xs : List X) → n < m → All (λ x. number x < n) xs → All (λ x. number x < m) xs
  parts_there n m xs lt h = All-weaker (λ x. number x < n) (λ x. number x < m) (λ x k. omega (arith, lt, k)) xs h
