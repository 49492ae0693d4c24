-- The place of a number in a list of numbers that are there once each.
use Rattle.std.proofs.Common.{◌≡◌, ◌<◌, ◌≤◌, ℕ, Bool, true, false, cond, not, List, [], ◌∷◌, Some, None, length, map, take, get_or, nat_eq, refl, sym, ap, ◌∙◌, arith}
use Rattle.std.specs.Prelude.{nat_lt}
use Rattle.std.specs.List.{list_any, position, position_or_len, prefix_len}
use Rattle.std.proofs.lemmas.Bool.{eqb-true, eqb-false, eq-eqb, ne_eqb, ltb-false}
use Rattle.std.proofs.lemmas.List.Sums.{prefix_len-le-length}
use Rattle.std.proofs.lemmas.Option.{slice_get-get_or}
use Rattle.support.proofs.ListLaws.{slice_get-take}
use Rattle.support.specs.Interned.{IsDistinctList}
use Rattle.llvm_core.proofs.GivenLemmas.{none_any}

prefix_small : {X : Type 0} (p : X → Bool) (xs : List X) → prefix_len p xs ≤ length xs
prefix_small p xs = prefix_len-le-length p xs

pub not_there : {X : Type 0} (p : X → Bool) (xs : List X) → position p xs ≡ None → position_or_len p xs ≡ length xs
not_there p xs h = by (nat_lt (position_or_len p xs) (length xs)) refl h
  where
    by : (b : Bool) → nat_lt (position_or_len p xs) (length xs) ≡ b → cond b (Some (position_or_len p xs)) None ≡ None → position_or_len p xs ≡ length xs
    by true e k = cc
    by false e k = omega (arith, ltb-false (position_or_len p xs) (length xs) e, prefix_small (λ x. not (p x)) xs)

-- a number is not among those before it
pub fresh_at : (xs : List ℕ) (i d : ℕ) → IsDistinctList xs → i < length xs → list_any (nat_eq (get_or xs i d)) (take i xs) ≡ false
fresh_at xs i d once lt = none_any (nat_eq (get_or xs i d)) (take i xs) (λ j x at.
    let t = slice_get-take i xs j x at in
    ne_eqb (get_or xs i d) x (λ same.
    let clash = once i j x (slice_get-get_or xs i d lt ∙ ap Some same) t.1 in
    let below = t.0 in
    absurd (omega (arith, clash, below))))

same_test : (a b : ℕ) → nat_eq a b ≡ nat_eq b a
same_test a b = by (nat_eq b a) refl
  where
    by : (t : Bool) → nat_eq b a ≡ t → nat_eq a b ≡ t
    by true e = eq-eqb a b (sym (eqb-true b a e))
    by false e = ne_eqb a b (λ same. eqb-false b a e (sym same))

-- the place of a thing of that number
pub place_by_number : {X : Type 0} (number : X → ℕ) (n : ℕ) (xs : List X) → position_or_len (nat_eq n) (map number xs) ≡ position_or_len (λ (x : X). nat_eq (number x) n) xs
place_by_number number n [] = refl
place_by_number number n (x ∷ xs) = let e = same_test n (number x) in let rest = place_by_number number n xs in cc
