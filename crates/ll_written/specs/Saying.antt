-- What symbols of a grammar say in tokens: events and values in one, with a line for each kind of symbol.
use Rattle.std.specs.Prelude.{◌≡◌, ℕ, List, [], ◌∷◌, ◌++◌, length, Some}
use Rattle.grammars.specs.declared.symbols.Symbol.{Symbol}
use Rattle.grammars.specs.declared.symbols.Symbol.TheVariants.{Word, Leaf, Rule}
use Rattle.grammars.specs.declared.symbols.Token as symbols
use Rattle.grammars.specs.Grammar.{Grammar}
use Rattle.ll_tokens.specs.declared.tokens.Token.{Token}
use Rattle.ll_values.specs.declared.form.Kind.{Kind}
use Rattle.ll_values.specs.Parts.{part_count}
use Rattle.ll_values.specs.Values.{Value, TextV, value_by}
use Rattle.ll_values.specs.Folding.{kind_at, token_by}

-- a token, by its class and its text
pub record Written : Type 0 where
  pub class : ℕ
  pub text : List ℕ

-- Symbols say values in tokens.
pub data Says (g : Grammar) (kinds : List Kind) : List Symbol → List Value → List Written → Type 0 where
  says_nothing : Says g kinds [] [] []
  says_word : (st : List Symbol) (vs : List Value) (ws : List Written) (w : Written) → Says g kinds st vs ws → Says g kinds (Word w.class ∷ st) vs (w ∷ ws)
  says_leaf : (st : List Symbol) (vs : List Value) (ws : List Written) (w : Written) → Says g kinds st vs ws → Says g kinds (Leaf w.class ∷ st) (TextV w.text ∷ vs) (w ∷ ws)
  says_rule : (r i : ℕ) (α st : List Symbol) (v : Value) (cs vs : List Value) (ws us : List Written) → g.symbols r i ≡ Some α → length cs ≡ part_count (kind_at kinds i) → value_by (kind_at kinds i) cs ≡ Some v
      → Says g kinds α cs ws → Says g kinds st vs us → Says g kinds (Rule r ∷ st) (v ∷ vs) (ws ++ us)

-- the tokens of a text have those classes and texts
abbrev pub Stand : List Kind → (bytes : List ℕ) → List Token → List symbols.Token → List Written → Type 0
Stand kinds bytes tokens [] [] = Unit {0}
Stand kinds bytes tokens [] (w ∷ ws) = ⊥
Stand kinds bytes tokens (t ∷ ts) [] = ⊥
Stand kinds bytes tokens (t ∷ ts) (w ∷ ws) = (t.class ≡ w.class) × (token_by kinds bytes tokens t ≡ Some (TextV w.text)) × Stand kinds bytes tokens ts ws
