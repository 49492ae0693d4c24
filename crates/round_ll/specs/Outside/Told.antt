-- What a call does to the bytes that a source has left and a sink has taken, where they are told.
use Rattle.std.specs.Prelude.{◌≡◌, ◌↔◌, ℕ, List, [], take, Result, MatchResult, IfSome}
use Rattle.std.specs.Io.KnownBytes.{prepend_known, append_known}
use Rattle.std.specs.declared.option.Option.{Option}

-- A read that answers n gave the first n bytes that were left, at the front of the buffer.
-- A source that tells its bytes goes on telling, and one that does not never begins.
abbrev pub Gives : {E : Type 0} → Option (List ℕ) → Option (List ℕ) → Result ℕ E → List ℕ → Type 0
Gives old new result buf =
    MatchResult result (λ n. old ≡ prepend_known (take n buf) new) (λ _. new ≡ old)

-- where the bytes left are told, the answer is 0 exactly where there are none
abbrev pub EndsExactlyAt : Option (List ℕ) → ℕ → Type 0
EndsExactlyAt left n = IfSome left (λ xs. (n ≡ 0) ↔ (xs ≡ []))

-- A write that answers n took the first n bytes of the piece, behind those taken before.
-- A sink that tells its bytes goes on telling, and one that does not never begins.
abbrev pub Takes : {E : Type 0} → Option (List ℕ) → Option (List ℕ) → Result ℕ E → List ℕ → Type 0
Takes old new result bytes =
    MatchResult result (λ n. new ≡ append_known old (take n bytes)) (λ _. new ≡ old)
