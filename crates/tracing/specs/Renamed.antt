-- A body under other names of its values.
use Rattle.std.specs.Prelude.{List, Option, map}
use Rattle.std.specs.Option.{option_map}
use Rattle.meaning.specs.Machine.{Operand, At, Fixed, Action, Holds, Applies, Row, Edge, Block}

module _ {V W : Type 0} (f : V → W) where
  abbrev pub renamed : Operand V → Operand W
  renamed (At v) = At (f v)
  renamed (Fixed t) = Fixed t

  abbrev pub renamed_action : Action V → Action W
  renamed_action (Holds t) = Holds t
  renamed_action (Applies o ty tys os) = Applies o ty tys (map renamed os)

  abbrev pub renamed_row : Row V → Row W
  renamed_row r = record { action = renamed_action r.action; result = f r.result }

  abbrev pub renamed_move : V × Option (Operand V) → W × Option (Operand W)
  renamed_move m = (f m.0, option_map renamed m.1)

  abbrev pub renamed_edge : Edge V → Edge W
  renamed_edge e = record { to = e.to; moves = map renamed_move e.moves }

  abbrev pub renamed_block : Block V → Block W
  renamed_block b = record { rows = map renamed_row b.rows; edges = map renamed_edge b.edges }

  abbrev pub renamed_code : List (Block V) → List (Block W)
  renamed_code bs = map renamed_block bs
