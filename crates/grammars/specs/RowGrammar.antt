-- The grammar of rows, and what they claim of it.
use Rattle.std.specs.Prelude.{ℕ, false, if◌then◌else◌, nat_eq, List, [], ◌∷◌, Option, Some, None, slice_get, slice_index_or}
use Rattle.grammars.specs.declared.symbols.Symbol.{Symbol}
use Rattle.grammars.specs.Grammar.{Grammar}
use Rattle.grammars.specs.Right.{Tables}
use Rattle.grammars.specs.Rows.{Alternative, Row, has, all_firsts, all_nulls, all_mores, all_heights}

infixl 10 ◌>>=◌
abbrev pub ◌>>=◌ : {A B : Type 0} → Option A → (A → Option B) → Option B
None >>= f = None
(Some x) >>= f = f x

-- the symbols of the alternative of that number
abbrev pub numbered : ℕ → List Alternative → Option (List Symbol)
numbered i [] = None
numbered i (a ∷ others) = if nat_eq a.number i then Some a.symbols else numbered i others

-- the alternative that the class begins
abbrev pub begun_by : ℕ → List Alternative → Option ℕ → Option ℕ
begun_by c [] other = other
begun_by c (a ∷ others) other = if has a.firsts c then Some a.number else begun_by c others other

abbrev pub chosen_of : Row → Option ℕ → Option ℕ
chosen_of row None = row.nothing
chosen_of row (Some c) = begun_by c row.alternatives row.nothing

abbrev pub grammar_of_rows : List Row → Grammar
grammar_of_rows rows = record {
  symbols = λ r i. slice_get rows r >>= λ row. numbered i row.alternatives;
  choose = λ r next. slice_get rows r >>= λ row. chosen_of row next;
}

abbrev pub tables_of_rows : List Row → Tables
tables_of_rows rows = record {
  first = λ r c. has (slice_index_or (all_firsts rows) r []) c;
  null = λ r. slice_index_or (all_nulls rows) r false;
  more = λ r c. has (slice_index_or (all_mores rows) r []) c;
  height = λ r. slice_index_or (all_heights rows) r 0;
}
