-- How what is still to be read changes as tokens are read.
use Rattle.std.specs.Prelude.{◌≡◌, ℕ, Option, List, ◌∷◌, ◌++◌}
use Rattle.grammars.specs.declared.symbols.Symbol.{Symbol}
use Rattle.grammars.specs.declared.symbols.Event.{Event}
use Rattle.grammars.specs.declared.symbols.Token.{Token}
use Rattle.grammars.specs.Grammar.{Grammar, Writes, next}
use Rattle.grammars.specs.Right.{Tables, Fits}

-- before tokens that begin so, the first symbols are written as what was read and then the others
pub record Moves (g : Grammar) (k : Tables) (ahead : Option ℕ) (old : List Symbol) (read : List Event) (new : List Symbol) : Type 0 where
  pub sound : (es : List Event) (ts : List Token) → next ts ≡ ahead → Writes g new es ts → Writes g old (read ++ es) ts
  pub only : (es : List Event) (ts : List Token) → next ts ≡ ahead → Writes g old es ts → (fs : List Event) × (es ≡ read ++ fs) × Writes g new fs ts
  pub fits : Fits k new

-- no symbols are written before tokens that begin so
abbrev pub Refuses : Grammar → Option ℕ → List Symbol → Type 0
Refuses g ahead st = (es : List Event) (ts : List Token) → next ts ≡ ahead → Writes g st es ts → ⊥

-- the first symbols are written as what was read, with that token, and then the others
pub record Takes (g : Grammar) (k : Tables) (t : Token) (old : List Symbol) (read : List Event) (new : List Symbol) : Type 0 where
  pub sound : (es : List Event) (ts : List Token) → Writes g new es ts → Writes g old (read ++ es) (t ∷ ts)
  pub only : (es : List Event) (ts : List Token) → Writes g old es (t ∷ ts) → (fs : List Event) × (es ≡ read ++ fs) × Writes g new fs ts
  pub fits : Fits k new
