-- Names, lists of them, and what is inserted in them.
use Rattle.std.specs.Prelude.{◌≡◌, ◌<◌, ℕ, Bool, true, false, map, List, [], ◌∷◌, ◌++◌, slice_get, Some}
use Rattle.std.specs.Borrow.{Bor}
pub use Rattle.kinds.specs.Names.{is_digit, is_letter, is_plain_byte, is_good_name, IsGoodOrNone, is_bad_name}

-- the texts that are borrowed as names
abbrev pub texts : List (Bor (List ℕ)) → List (List ℕ)
texts names = map (λ n. n.now) names

-- the name is in the list
abbrev pub Stands : List (List ℕ) → List ℕ → Type 0
Stands names n = (i : ℕ) × (slice_get names i ≡ Some n)

-- a name stands at two places
abbrev pub HasTwice : List (List ℕ) → Type 0
HasTwice names = (i : ℕ) × (j : ℕ) × (n : List ℕ) × (i < j) × (slice_get names i ≡ Some n) × (slice_get names j ≡ Some n)

-- a fresh name goes last, and one that is not fresh was there
abbrev pub IsInserted : List (List ℕ) → List (List ℕ) → List ℕ → Bool → Type 0
IsInserted old new n true = (new ≡ old ++ n ∷ []) × ¬ Stands old n
IsInserted old new n false = Stands old n

-- ---- names that the form takes

-- as the text asks them
abbrev pub is_plain : List ℕ → Bool
is_plain n = is_good_name n

abbrev pub IsPlainOrNone : List ℕ → Type 0
IsPlainOrNone n = IsGoodOrNone n
