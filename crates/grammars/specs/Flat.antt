-- Flat tables as rows, and their check.
use Rattle.std.specs.Prelude.{ℕ, suc, ◌-◌, ◌&&◌, Bool, List, [], ◌∷◌, length, map, nat_lt, take, drop, reverse}
use Rattle.std.specs.List.{list_all}
use Rattle.grammars.specs.declared.symbols.Symbol.{Symbol}
use Rattle.grammars.specs.declared.rows.Alternative as flat
use Rattle.grammars.specs.declared.rows.Row as flat_row
use Rattle.grammars.specs.Numbers.{some_number}
use Rattle.grammars.specs.Rows.{Alternative, Row, check_rows}

abbrev pub part : {A : Type 0} → List A → (start end : ℕ) → List A
part xs start end = take (end - start) (drop start xs)

abbrev pub symbols_of : List Symbol → flat.Alternative → List Symbol
symbols_of symbols a = reverse (part symbols a.start a.end)

-- a part that lies within so many
abbrev pub is_within : ℕ → flat.Alternative → Bool
is_within n a = nat_lt a.start (suc a.end) && nat_lt a.end (suc n)

abbrev pub all_within : List Symbol → List flat.Alternative → Bool
all_within symbols alternatives = list_all (is_within (length symbols)) alternatives

-- alternatives, the first of that number
abbrev pub numbered_from : List Symbol → (firsts : List ℕ) → ℕ → List flat.Alternative → List Alternative
numbered_from symbols firsts n [] = []
numbered_from symbols firsts n (a ∷ others) = record { number = n; symbols = symbols_of symbols a; firsts = part firsts a.first a.first_end } ∷ numbered_from symbols firsts (suc n) others

abbrev pub row_of : List Symbol → List flat.Alternative → (firsts mores : List ℕ) → flat_row.Row → Row
row_of symbols alternatives firsts mores r = record {
  alternatives = numbered_from symbols firsts (suc r.start) (part alternatives r.start r.end);
  nothing = some_number r.nothing;
  more = part mores r.more r.more_end;
  height = r.height;
}

abbrev pub rows_of : List Symbol → List flat.Alternative → List flat_row.Row → (firsts mores : List ℕ) → List Row
rows_of symbols alternatives rows firsts mores = map (row_of symbols alternatives firsts mores) rows

abbrev pub check_flat : List Symbol → List flat.Alternative → List flat_row.Row → (firsts mores : List ℕ) → Bool
check_flat symbols alternatives rows firsts mores = check_rows (rows_of symbols alternatives rows firsts mores)
