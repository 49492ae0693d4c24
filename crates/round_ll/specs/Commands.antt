-- The commands of the program.
use Rattle.std.specs.Prelude.{ℕ, List, [], ◌∷◌, Option, Some, None, codes, if◌then◌else◌}
use Rattle.std.specs.Str.{bytes_eq}
use Rattle.round_ll.specs.declared.command.Command.{Command}
use Rattle.round_ll.specs.declared.command.Command.TheVariants.{Round}

-- the command that a list of words is, none where it is none
abbrev pub command_of : List (List ℕ) → Option Command
command_of (word ∷ []) = if bytes_eq word (codes "round") then Some Round else None
command_of _ = None
