-- A reader as the symbols that are still to be read, and what was read.
use Rattle.std.specs.Prelude.{◌≡◌, ◌<◌, ◌≤◌, ℕ, ◌+◌, ◌*◌, ◌==◌, slice_index_or, Bool, false, Option, Some, None, List, [], ◌∷◌, ◌++◌, length, reverse, take}
use Rattle.std.specs.Borrow.{Bor}
use Rattle.grammars.specs.declared.symbols.Symbol.{Symbol}
use Rattle.grammars.specs.declared.symbols.Symbol.TheVariants.{Rule}
use Rattle.grammars.specs.declared.symbols.Event.{Event}
use Rattle.grammars.specs.declared.symbols.Event.TheVariants.{Held}
use Rattle.grammars.specs.declared.symbols.Token.{Token}
use Rattle.grammars.specs.declared.grammar.Grammar as code
use Rattle.grammars.specs.declared.reader.Ahead.{Ahead}
use Rattle.grammars.specs.declared.reader.Reader.{Reader}
use Rattle.grammars.specs.Numbers.{some_number}
use Rattle.grammars.specs.Grammar.{Grammar, Writes}
use Rattle.grammars.specs.Moving.{Moves, Takes}
use Rattle.grammars.specs.FlatGrammar.{grammar_of, tables_of}

-- what is left of alternatives, the innermost first, each with its last symbol first
abbrev pub left_of : List (Bor (List Symbol)) → List Symbol
left_of [] = []
left_of (p ∷ ps) = reverse p.now ++ left_of ps

abbrev pub rule_of : Option ℕ → List Symbol
rule_of None = []
rule_of (Some r) = Rule r ∷ []

-- of the parts of a reader
abbrev pub stack_from : (next : List Symbol) → List (Bor (List Symbol)) → (last : Option ℕ) → List Symbol
stack_from next stack last = reverse next ++ left_of (reverse stack) ++ rule_of last

abbrev pub stack_of : Reader → List Symbol
stack_of r = reverse r.next.now ++ left_of (reverse r.stack.items) ++ rule_of r.last

-- a reader before which other symbols stand next
abbrev pub with_next : Reader → (next : List Symbol) → Reader
with_next r next = record { next = record { ref_ptr = r.next.ref_ptr; now = next }; stack = r.stack; last = r.last; events = r.events }

-- a token is taken, and what was read by it stands behind the other events
pub record TakesToken (g : code.Grammar) (t : Token) (old new : Reader) : Type 0 where
  pub read : List Event
  pub events : new.events.items ≡ old.events.items ++ read
  pub takes : Takes (grammar_of g) (tables_of g) t (stack_of old) read (stack_of new)

-- the token ahead is of the class, and is held behind the other events
pub record Holds (ahead : Option Token) (class : ℕ) (old new : List Event) : Type 0 where
  pub token : Token
  pub is : ahead ≡ Some token
  pub class_is : token.class ≡ class
  pub events : new ≡ old ++ Held token.at ∷ []

-- so far no token is taken
pub record IsOnTheWay (g : code.Grammar) (ahead : Option ℕ) (old new : Reader) : Type 0 where
  pub read : List Event
  pub events : new.events.items ≡ old.events.items ++ read
  pub moves : Moves (grammar_of g) (tables_of g) ahead (stack_of old) read (stack_of new)

-- the tokens are over, and what was still to be read is written as none
pub record ReadsRest (g : code.Grammar) (old new : Reader) : Type 0 where
  pub read : List Event
  pub events : new.events.items ≡ old.events.items ++ read
  pub written : Writes (grammar_of g) (stack_of old) read []

-- ---- what stands next: a token, or the end of the tokens

abbrev pub class_ahead : Option Token → Option ℕ
class_ahead None = None
class_ahead (Some t) = Some t.class

abbrev pub is_class : Option Token → ℕ → Bool
is_class None c = false
is_class (Some t) c = c == t.class

-- what is ahead tells how to go on, by the table
pub record TellsAhead (g : code.Grammar) (a : Ahead) : Type 0 where
  pub entries : (r : ℕ) → a.class < a.classes → some_number (slice_index_or a.entries.now (r * a.classes + a.class) 0) ≡ (grammar_of g).choose r (class_ahead a.token)
  pub others : (r : ℕ) → a.classes ≤ a.class → (grammar_of g).choose r None ≡ (grammar_of g).choose r (class_ahead a.token)

abbrev pub ReadsUpTo : code.Grammar → Option Token → (old new : Reader) → Type 0
ReadsUpTo g None old new = ReadsRest g old new
ReadsUpTo g (Some t) old new = TakesToken g t old new

abbrev pub StopsAt : Grammar → Option Token → List Symbol → Type 0
StopsAt g None st = (es : List Event) → Writes g st es [] → ⊥
StopsAt g (Some t) st = (es : List Event) (ts : List Token) → Writes g st es (t ∷ ts) → ⊥

-- of what the rule writes, those tokens were taken
pub record IsBehind (g : code.Grammar) (r : ℕ) (now : Reader) (front : List Token) : Type 0 where
  pub sound : (es : List Event) (ts : List Token) → Writes (grammar_of g) (stack_of now) es ts → Writes (grammar_of g) (Rule r ∷ []) (now.events.items ++ es) (front ++ ts)
  pub only : (es : List Event) (ts : List Token) → Writes (grammar_of g) (Rule r ∷ []) es (front ++ ts) → (fs : List Event) × (es ≡ now.events.items ++ fs) × Writes (grammar_of g) (stack_of now) fs ts

-- The rule does not write these tokens, for what stands at that place, or for their end.
pub record IsRefusedAt (g : Grammar) (r : ℕ) (ts : List Token) (place : ℕ) : Type 0 where
  pub none : (es : List Event) → Writes g (Rule r ∷ []) es ts → ⊥
  pub within : place ≤ length ts
  -- nor others that begin so
  pub begun : place < length ts → (es : List Event) (us : List Token) → Writes g (Rule r ∷ []) es (take (place + 1) ts ++ us) → ⊥
