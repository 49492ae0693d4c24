-- What a token is.
use Rattle.std.specs.Prelude.{ℕ, List}

-- a token is its text
abbrev pub Text : Type 0
Text = List ℕ
