-- What a test of a text says once more stands behind it.
use Rattle.std.proofs.Common.{◌≡◌, ◌<◌, ℕ, zero, suc, ◌+◌, Bool, true, false, List, [], ◌∷◌, ◌++◌, length, slice_index, nat_eq, refl, arith}
use Rattle.std.specs.List.{prefix_len, starts_with}
use Rattle.std.proofs.lemmas.List.{get_or_append_left}
use Rattle.std.proofs.lemmas.Bool.{and_parts}
use Rattle.ll_tokens.specs.Bytes.{in_string}
use Rattle.ll_tokens.specs.Pieces.{closes}
use Rattle.ll_tokens.proofs.FitLaws.{inside}
use Rattle.ll_spacing.specs.Following.{Stops}

-- the first byte of a text, 0 where there is none
pub first_fails : (p : ℕ → Bool) (r : List ℕ) → p 0 ≡ false → Stops p r → p (slice_index r 0) ≡ false
first_fails p [] zero_fails s = zero_fails
first_fails p (b ∷ r) zero_fails s = s

-- a run that does not go on with what stands behind it
pub run_same : (p : ℕ → Bool) (xs r : List ℕ) → Stops p r → prefix_len p (xs ++ r) ≡ prefix_len p xs
run_same p [] [] s = refl
run_same p [] (b ∷ r) s = rw s refl
run_same p (x ∷ xs) r s = rw (run_same p xs r s) refl

run_inside_by : (p : ℕ → Bool) (x : ℕ) (xs r : List ℕ) (b : Bool) → p x ≡ b → prefix_len p (x ∷ xs) < suc (length xs)
    → (prefix_len p xs < length xs → prefix_len p (xs ++ r) ≡ prefix_len p xs) → prefix_len p (x ∷ xs ++ r) ≡ prefix_len p (x ∷ xs)
run_inside_by p x xs r true e le shorter =
    let full : prefix_len p (x ∷ xs) ≡ 1 + prefix_len p xs = rw e refl in
    rw (e, shorter (omega arith)) refl
run_inside_by p x xs r false e le shorter = rw e refl

-- a run that ends within a text
pub run_inside : (p : ℕ → Bool) (xs r : List ℕ) → prefix_len p xs < length xs → prefix_len p (xs ++ r) ≡ prefix_len p xs
run_inside p [] r le = absurd (omega arith)
run_inside p (x ∷ xs) r le = run_inside_by p x xs r (p x) refl le (run_inside p xs r)

-- a whole run, from its front
pub whole_run : (p : ℕ → Bool) (x : ℕ) (xs : List ℕ) (b : Bool) → p x ≡ b → prefix_len p (x ∷ xs) ≡ suc (length xs) → p x ≡ true
whole_run p x xs true is e = is
whole_run p x xs false is e = let none : prefix_len p (x ∷ xs) ≡ 0 = rw is refl in absurd (omega arith)

-- a string that closes, closes there
pub closed : (bs : List ℕ) → closes bs ≡ true → prefix_len in_string bs < length bs
closed bs e = inside bs (prefix_len in_string bs) 34 (omega arith) e

pub string_run : (bs r : List ℕ) → closes bs ≡ true → prefix_len in_string (bs ++ r) ≡ prefix_len in_string bs
string_run bs r e = run_inside in_string bs r (closed bs e)

pub still_closes : (bs r : List ℕ) → closes bs ≡ true → closes (bs ++ r) ≡ true
still_closes bs r e = rw (string_run bs r e, get_or_append_left bs r 0 (prefix_len in_string bs) (closed bs e)) e

-- where a byte is found that passes a test that 0 does not pass, the text goes as far
pub found_inside : (p : ℕ → Bool) (bs : List ℕ) (i : ℕ) → p 0 ≡ false → p (slice_index bs i) ≡ true → i < length bs
found_inside p [] zero f e = absurd cc
found_inside p [] (suc i) f e = absurd cc
found_inside p (b ∷ bs) zero f e = omega arith
found_inside p (b ∷ bs) (suc i) f e = let l = found_inside p bs i f e in omega arith

pub still_starts : (xs ys r : List ℕ) → starts_with nat_eq xs ys ≡ true → starts_with nat_eq (xs ++ r) ys ≡ true
still_starts xs [] r e = refl
still_starts [] (y ∷ ys) r e = absurd cc
still_starts (x ∷ xs) (y ∷ ys) r e = let k = and_parts (nat_eq y x) (starts_with nat_eq xs ys) e in rw (k.0, still_starts xs ys r k.1) refl

-- behind a text stands what was put there
pub index_behind : (xs r : List ℕ) → slice_index (xs ++ r) (length xs) ≡ slice_index r 0
index_behind [] r = refl
index_behind (x ∷ xs) r = index_behind xs r
