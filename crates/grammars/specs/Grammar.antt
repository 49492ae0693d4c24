-- What a grammar is, and what tokens are read as by it.
use Rattle.std.specs.Prelude.{◌≡◌, ℕ, List, [], ◌∷◌, ◌++◌, Option, Some, None}
use Rattle.grammars.specs.declared.symbols.Symbol.{Symbol}
use Rattle.grammars.specs.declared.symbols.Symbol.TheVariants.{Word, Leaf, Rule}
use Rattle.grammars.specs.declared.symbols.Event.{Event}
use Rattle.grammars.specs.declared.symbols.Event.TheVariants.{Took, Held}
use Rattle.grammars.specs.declared.symbols.Token.{Token}

pub record Grammar : Type 0 where
  -- the symbols of an alternative of a rule
  pub symbols : (rule alternative : ℕ) → Option (List Symbol)
  -- the alternative that the class of the next token tells, or that there is no token more
  pub choose : (rule : ℕ) → Option ℕ → Option ℕ

-- Symbols are written as tokens, in the way that events tell.
pub data Writes (g : Grammar) : List Symbol → List Event → List Token → Type 0 where
  at_end : Writes g [] [] []
  at_word : (st : List Symbol) (es : List Event) (ts : List Token) (t : Token) → Writes g st es ts → Writes g (Word t.class ∷ st) es (t ∷ ts)
  at_leaf : (st : List Symbol) (es : List Event) (ts : List Token) (t : Token) → Writes g st es ts → Writes g (Leaf t.class ∷ st) (Held t.at ∷ es) (t ∷ ts)
  at_rule : (st : List Symbol) (es : List Event) (ts : List Token) (r i : ℕ) (α : List Symbol) → g.symbols r i ≡ Some α → Writes g (α ++ st) es ts → Writes g (Rule r ∷ st) (Took i ∷ es) ts

-- the class of the next token
abbrev pub next : List Token → Option ℕ
next [] = None
next (t ∷ ts) = Some t.class
