-- A list in which each value is kept once.
use Rattle.std.specs.Prelude.{◌≡◌, ◌⊎◌, ℕ, Bool, true, List, [], ◌∷◌, ◌++◌, slice_get, Some}
use Rattle.std.specs.List.{position_or_len}
use Rattle.indexmap.specs.IndexSet.{insert_key}

-- the value has the number n: it is at its place in the old list, or is put last; what stands at n is equal to it
pub record InternedBy {X : Type 0} (eq : X → X → Bool) (old new : List X) (value : X) (n : ℕ) : Type 0 where
  pub grown : new ≡ insert_key eq old value
  pub number : n ≡ position_or_len (eq value) old
  pub stored : (x : X) × (slice_get new n ≡ Some x) × (eq value x ≡ true)

-- equal values have equal numbers
abbrev pub IsDistinctList : {X : Type 0} → List X → Type 0
IsDistinctList {X} xs = (i j : ℕ) (x : X) → slice_get xs i ≡ Some x → slice_get xs j ≡ Some x → i ≡ j

-- k stands at n in the list, which is the old one or that with k last
pub record Interned {X : Type 0} (old new : List X) (k : X) (n : ℕ) : Type 0 where
  pub here : slice_get new n ≡ Some k
  pub only : (new ≡ old) ⊎ (new ≡ old ++ k ∷ [])
