-- A table that holds what a grammar chooses.
use Rattle.std.specs.Prelude.{◌≡◌, ◌<◌, ◌≤◌, ℕ, ◌+◌, ◌*◌, Some, None, slice_index_or}
use Rattle.grammars.specs.declared.grammar.Grammar as code
use Rattle.grammars.specs.declared.choices.Choices.{Choices}
use Rattle.grammars.specs.Numbers.{some_number}
use Rattle.grammars.specs.FlatGrammar.{grammar_of}

pub record AreChoices (g : code.Grammar) (choices : Choices) : Type 0 where
  pub entries : (r c : ℕ) → c < choices.classes → some_number (slice_index_or choices.entries.items (r * choices.classes + c) 0) ≡ (grammar_of g).choose r (Some c)
  -- a class behind the lines begins nothing
  pub others : (r c : ℕ) → choices.classes ≤ c → (grammar_of g).choose r None ≡ (grammar_of g).choose r (Some c)
