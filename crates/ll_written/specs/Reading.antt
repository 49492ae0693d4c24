-- What a text is read as: by its tokens, their classes, the events of the grammar, and what these say.
use Rattle.std.specs.Prelude.{◌≡◌, ℕ, suc, List, [], ◌∷◌, Some}
use Rattle.grammars.specs.Grammar.{Writes}
use Rattle.grammars.specs.declared.symbols.Event.{Event}
use Rattle.grammars.specs.declared.symbols.Symbol.TheVariants.{Rule}
use Rattle.grammars.specs.declared.symbols.Token as symbols
use Rattle.ll_classes.specs.Llvm.{llvm_class}
use Rattle.ll_lines.specs.Lines.{File}
use Rattle.ll_lines.specs.Views.{text_of}
use Rattle.ll_rules.specs.Llvm.{llvm}
use Rattle.ll_tokens.specs.Tokens.{tokens_of}
use Rattle.ll_tokens.specs.declared.tokens.Token.{Token}
use Rattle.ll_values.specs.Folding.{fold}
use Rattle.ll_values.specs.Values.{FileV}
use Rattle.ll_values.specs.declared.form.TheConstants.{KINDS}
use Rattle.ll_written.specs.Rules as R

-- tokens as the grammar sees them, the first of that number: each by its class and its number
abbrev pub seen : (bytes : List ℕ) → (number : ℕ) → List Token → List symbols.Token
seen bytes n [] = []
seen bytes n (t ∷ ts) = record { class = llvm_class t.kind (text_of bytes (record { start = t.start; end = t.end })); at = n } ∷ seen bytes (suc n) ts

-- the text has those tokens, and the rule of a file writes them in the way that the events tell
pub record AreReadAs (bytes : List ℕ) (ts : List Token) (es : List Event) : Type 0 where
  pub cut : tokens_of bytes ≡ Some ts
  pub written : Writes llvm (Rule R.file ∷ []) es (seen bytes 0 ts)

-- the events of the text say the file
pub record IsReadAs (bytes : List ℕ) (f : File) : Type 0 where
  pub tokens : List Token
  pub events : List Event
  pub read : AreReadAs bytes tokens events
  pub says : fold KINDS bytes tokens events ≡ Some (FileV f ∷ [])
