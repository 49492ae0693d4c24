-- Names: which texts are identifiers.
use Rattle.std.specs.Prelude.{ℕ, Bool, List, [], ◌∷◌, ◌||◌, ◌==◌, IsTrue}
use Rattle.std.specs.List.{list_all}
pub use Rattle.kinds.specs.Names.{is_letter, is_digit}

-- a letter, a digit or `_`
abbrev pub is_name_byte : ℕ → Bool
is_name_byte c = (is_letter c || is_digit c) || c == 95

-- a nonempty text of letters, digits and `_` that does not begin with a digit
abbrev pub IsIdentifier : List ℕ → Type 0
IsIdentifier [] = ⊥
IsIdentifier (c ∷ cs) = IsTrue (is_letter c || c == 95) × IsTrue (list_all is_name_byte cs)
