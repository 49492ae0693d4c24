-- The numbers that were noted of a function's unnamed parameters, blocks and results.
use Rattle.std.specs.Prelude.{◌≡◌, ℕ, Bool, List, ◌++◌, length, nat_lt, Option, Some, None, if◌then◌else◌}
use Rattle.std.specs.List.{position_or_len}
use Rattle.support.specs.NumberMaps.{value_at}
use Rattle.ll_print.specs.declared.places.Place.{Place}
use Rattle.ll_print.specs.declared.places.Place.TheVariants as P
use Rattle.ll_print.specs.contracts.places.PlacePartialEq.TheImpl as keys
use Rattle.ll_print.specs.declared.numbers.Numbers.{Numbers}
use Rattle.ll_print.specs.Printing.{Unnamed, ParamAt, BlockOf, ResultOf, same_unnamed}

-- what a key stands for
abbrev pub thing_of : Place → Unnamed
thing_of (P.Param i) = ParamAt i
thing_of (P.Block b) = BlockOf b.0
thing_of (P.Result i) = ResultOf i.0

abbrev pub same_place : Place → Place → Bool
same_place p q = keys.eq-value.it p q

-- the number that was noted of a thing
abbrev pub noted_at : Numbers → Place → Option ℕ
noted_at n (P.Param i) = value_at n.params i
noted_at n (P.Block b) = value_at n.blocks b.0
noted_at n (P.Result i) = value_at n.results i.0

-- a number, where there is one, else the other
abbrev pub or_number : Option ℕ → ℕ → ℕ
or_number None n = n
or_number (Some k) n = k

-- the number of a thing that has no name: the one that was noted, else the count
abbrev pub number_at : Numbers → Place → ℕ
number_at n p = or_number (noted_at n p) n.count

-- the place of a thing in a list, where it stands there
abbrev pub place_in : List Unnamed → Unnamed → Option ℕ
place_in xs x = if nat_lt (position_or_len (same_unnamed x) xs) (length xs) then Some (position_or_len (same_unnamed x) xs) else None

-- those of the list were counted: each thing of it has its place there as its number, no other has one
pub record IsNumbering (n : Numbers) (xs : List Unnamed) : Type 0 where
  pub count : n.count ≡ length xs
  pub numbers : (p : Place) → noted_at n p ≡ place_in xs (thing_of p)

-- those of the list were counted behind others
pub record Counts (old new : Numbers) (ys : List Unnamed) : Type 0 where
  pub function : new.function ≡ old.function
  pub more : (xs : List Unnamed) → IsNumbering old xs → IsNumbering new (xs ++ ys)
