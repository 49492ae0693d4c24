-- The table of choices, line by line: the alternative that a class begins, looked up in lists.
use Rattle.std.specs.Prelude.{◌≡◌, ◌<◌, ℕ, suc, ◌+◌, ◌*◌, if◌then◌else◌, List, [], ◌∷◌, length, slice_index_or}
use Rattle.grammars.specs.declared.rows.Alternative.{Alternative}
use Rattle.grammars.specs.declared.rows.Row.{Row}
use Rattle.grammars.specs.Rows.{has}
use Rattle.grammars.specs.Flat.{part}

-- the number of the first alternative that the class begins, where the first of all has that number
abbrev pub begun : (firsts : List ℕ) → List Alternative → (number class other : ℕ) → ℕ
begun firsts [] n c other = other
begun firsts (a ∷ others) n c other = if has (part firsts a.first a.first_end) c then n else begun firsts others (suc n) c other

-- of a row; 0 where there is none
abbrev pub chosen : (firsts : List ℕ) → List Alternative → Row → (class : ℕ) → ℕ
chosen firsts alternatives row c = begun firsts (part alternatives row.start row.end) (suc row.start) c row.nothing

-- each class of a line is looked up
pub record IsLine (classes : ℕ) (f : ℕ → ℕ) (line : List ℕ) : Type 0 where
  pub length : length line ≡ classes
  pub entries : (c : ℕ) → c < classes → slice_index_or line c 0 ≡ f c

-- the lines of the first rows, one behind another
pub record AreLines (classes rows : ℕ) (f : ℕ → ℕ → ℕ) (table : List ℕ) : Type 0 where
  pub length : length table ≡ rows * classes
  pub entries : (r c : ℕ) → r < rows → c < classes → slice_index_or table (r * classes + c) 0 ≡ f r c

abbrev pub no_row : Row
no_row = record { start = 0; end = 0; more = 0; more_end = 0; nothing = 0; height = 0 }

-- by rule and class
abbrev pub chosen_at : (firsts : List ℕ) → List Alternative → List Row → (rule class : ℕ) → ℕ
chosen_at firsts alternatives rows r c = chosen firsts alternatives (slice_index_or rows r no_row) c
