-- When the next token tells how to go on, said of each alternative alone.
use Rattle.std.specs.Prelude.{◌≡◌, ℕ, suc, ◌+◌, ◌≤◌, Bool, true, false, ◌||◌, ◌&&◌, if◌then◌else◌, nat_eq, List, [], ◌∷◌, Some, None}
use Rattle.grammars.specs.declared.symbols.Symbol.{Symbol}
use Rattle.grammars.specs.declared.symbols.Symbol.TheVariants.{Word, Leaf, Rule}
use Rattle.grammars.specs.Grammar.{Grammar}

-- what is claimed of each rule
pub record Tables : Type 0 where
  -- may a token of that class begin what the rule writes, and may it be nothing?
  pub first : (rule class : ℕ) → Bool
  pub null : (rule : ℕ) → Bool
  -- might such a token, standing behind it, go on with it?
  pub more : (rule class : ℕ) → Bool
  -- more than how many rules may stand at its front, one in another
  pub height : (rule : ℕ) → ℕ

-- may the symbols be nothing?
abbrev pub empties : Tables → List Symbol → Bool
empties k [] = true
empties k (Word d ∷ st) = false
empties k (Leaf d ∷ st) = false
empties k (Rule r ∷ st) = k.null r && empties k st

-- may a token of that class begin what the symbols write?
abbrev pub begins : Tables → ℕ → List Symbol → Bool
begins k c [] = false
begins k c (Word d ∷ st) = nat_eq c d
begins k c (Leaf d ∷ st) = nat_eq c d
begins k c (Rule r ∷ st) = k.first r c || (k.null r && begins k c st)

-- might such a token behind the symbol go on with it?
abbrev pub goes_on : Tables → ℕ → Symbol → Bool
goes_on k c (Word d) = false
goes_on k c (Leaf d) = false
goes_on k c (Rule r) = k.more r c

-- and with the symbols?
abbrev pub extends : Tables → ℕ → List Symbol → Bool
extends k c [] = false
extends k c (s ∷ st) = (empties k st && goes_on k c s) || extends k c st

-- nothing that stands behind a symbol could go on with it
abbrev pub Fits : Tables → List Symbol → Type 0
Fits k [] = Unit {0}
Fits k (s ∷ st) = ((c : ℕ) → goes_on k c s ≡ true → begins k c st ≡ false) × Fits k st

-- how many rules may stand at the front of the symbols, one in another, at most
abbrev pub lead : Tables → List Symbol → ℕ
lead k [] = 0
lead k (Word d ∷ st) = 0
lead k (Leaf d ∷ st) = 0
lead k (Rule r ∷ st) = k.height r + (if k.null r then lead k st else 0)

pub record IsRightAt (g : Grammar) (k : Tables) (r i : ℕ) (α : List Symbol) : Type 0 where
  pub first : (c : ℕ) → begins k c α ≡ true → k.first r c ≡ true
  pub null : empties k α ≡ true → k.null r ≡ true
  pub more : (c : ℕ) → extends k c α ≡ true → k.more r c ≡ true
  pub fits : Fits k α
  pub height : suc (lead k α) ≤ k.height r
  pub chosen : (c : ℕ) → begins k c α ≡ true → g.choose r (Some c) ≡ Some i
  -- where the alternative may be nothing, it is chosen before all that does not begin its rule
  pub default : empties k α ≡ true → (c : ℕ) → k.first r c ≡ false → g.choose r (Some c) ≡ Some i
  pub over : empties k α ≡ true → g.choose r None ≡ Some i
  pub opens : empties k α ≡ true → (c : ℕ) → k.first r c ≡ true → k.more r c ≡ true

-- what is claimed holds, and the grammar chooses by it
pub record IsRight (g : Grammar) (k : Tables) : Type 0 where
  pub at : (r i : ℕ) (α : List Symbol) → g.symbols r i ≡ Some α → IsRightAt g k r i α
