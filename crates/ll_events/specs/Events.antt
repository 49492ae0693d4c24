-- The events of a text, and where a text has none.
use Rattle.std.specs.Prelude.{◌≡◌, ℕ, suc, List, [], ◌∷◌, length, Option, Some, None, slice_get}
use Rattle.grammars.specs.declared.grammar.Grammar.{Grammar}
use Rattle.grammars.specs.declared.symbols.Event.{Event}
use Rattle.grammars.specs.declared.symbols.Symbol.TheVariants.{Rule}
use Rattle.grammars.specs.declared.symbols.Token as G
use Rattle.grammars.specs.Flat.{part}
use Rattle.grammars.specs.FlatGrammar.{grammar_of}
use Rattle.grammars.specs.Grammar.{Writes}
use Rattle.grammars.specs.Reading.{IsRefusedAt}
use Rattle.ll_classes.specs.Classes.{class_of}
use Rattle.ll_classes.specs.declared.words.Words.{Words}
use Rattle.ll_tokens.specs.Tokens.{tokens_of}
use Rattle.ll_tokens.specs.declared.tokens.Token as L

-- a token of a text as a grammar sees it: its class, and its number among the tokens
abbrev pub seen_as : Words → (bytes : List ℕ) → (number : ℕ) → L.Token → G.Token
seen_as w bytes n t = record { class = class_of w t.kind (part bytes t.start t.end); at = n }

-- tokens, the first of that number
abbrev pub seen : Words → (bytes : List ℕ) → (number : ℕ) → List L.Token → List G.Token
seen w bytes n [] = []
seen w bytes n (t ∷ ts) = seen_as w bytes n t ∷ seen w bytes (suc n) ts

-- The text has those tokens, and the rule writes them in the way that the events tell.
pub record AreEvents (g : Grammar) (w : Words) (rule : ℕ) (bytes : List ℕ) (ts : List L.Token) (es : List Event) : Type 0 where
  pub tokens : tokens_of bytes ≡ Some ts
  pub written : Writes (grammar_of g) (Rule rule ∷ []) es (seen w bytes 0 ts)

-- where the token of that number begins, or the end of the text
abbrev pub start_of : (end : ℕ) → Option L.Token → ℕ
start_of end None = end
start_of end (Some t) = t.start

-- The text has tokens, and the rule does not write them for the token that begins at that byte, or for their end.
pub record IsRefusedAtByte (g : Grammar) (w : Words) (rule : ℕ) (bytes : List ℕ) (byte : ℕ) : Type 0 where
  pub tokens : List L.Token
  pub are : tokens_of bytes ≡ Some tokens
  pub number : ℕ
  pub refused : IsRefusedAt (grammar_of g) rule (seen w bytes 0 tokens) number
  pub place : byte ≡ start_of (length bytes) (slice_get tokens number)
