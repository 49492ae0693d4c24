-- What is left of a run of bytes that is cut off at the front.
use Rattle.std.proofs.Common.{◌≡◌, ℕ, zero, suc, Bool, true, false, ◌+◌, ◌-◌, ◌≤◌, ◌⊎◌, inl, inr, List, [], ◌∷◌, drop, drop-drop, refl, arith}
use Rattle.std.specs.List.{prefix_len}
use Rattle.ll_tokens.specs.Bytes.{is_name_byte}
use Rattle.ll_tokens.specs.Runs.{EndsRun}

run-drop_by : (p : ℕ → Bool) (n x : ℕ) (xs : List ℕ) (b : Bool) → p x ≡ b → suc n ≤ prefix_len p (x ∷ xs) → (n ≤ prefix_len p xs → prefix_len p (drop n xs) ≡ prefix_len p xs - n) → prefix_len p (drop n xs) ≡ prefix_len p (x ∷ xs) - suc n
run-drop_by p n x xs true e le shorter =
    let full : prefix_len p (x ∷ xs) ≡ 1 + prefix_len p xs = rw e (omega arith) in
    let o : prefix_len p (drop n xs) ≡ prefix_len p xs - n = shorter (omega arith) in
    omega arith
run-drop_by p n x xs false e le shorter = let none : prefix_len p (x ∷ xs) ≡ 0 = rw e refl in absurd (omega arith)

-- a run that is cut off at the front is as much shorter
pub run-drop : (p : ℕ → Bool) (n : ℕ) (xs : List ℕ) → n ≤ prefix_len p xs → prefix_len p (drop n xs) ≡ prefix_len p xs - n
run-drop p zero xs le = omega arith
run-drop p (suc n) [] le = absurd (omega arith)
run-drop p (suc n) (x ∷ xs) le = run-drop_by p n x xs (p x) refl le (run-drop p n xs)

ends_by : (p : ℕ → Bool) (xs : List ℕ) (at n end rest : ℕ) → rest ≡ prefix_len p xs - n → end ≡ at + prefix_len p xs → (end ≤ at + n) ⊎ (end ≡ (at + n) + prefix_len p (drop n xs))
ends_by p xs at n end zero is ends = inl (omega arith)
ends_by p xs at n end (suc k) is ends = let o : prefix_len p (drop n xs) ≡ prefix_len p xs - n = run-drop p n xs (omega arith) in inr (omega arith)

-- where a run ends, it also ends seen from behind its front
pub ends_later : (bytes : List ℕ) (at n end : ℕ) → EndsRun bytes at end → EndsRun bytes (at + n) end
ends_later bytes at n end (inl before) = inl (omega arith)
ends_later bytes at n end (inr ends) = rw (← drop-drop n at bytes) (ends_by is_name_byte (drop at bytes) at n end (prefix_len is_name_byte (drop at bytes) - n) refl ends)
