-- A type, or types, that the first of some symbols are what is written of. No clause of another crate cites this.
use Rattle.std.specs.Prelude.{ℕ, ◌≡◌, ◌≤◌, ◌^◌, ◌&&◌, Bool, true, false, List, ◌∷◌, nat_lt, nat_le}
use Rattle.kinds.specs.Types.{depth, depths}
use Rattle.dialect_types.specs.Trees.{NamedStruct, TypeTree, TypeTrees}
use Rattle.dialect_parsing.specs.declared.symbol.Symbol.{Symbol}
use Rattle.dialect_parsing.specs.declared.symbol.Symbol.TheVariants as S
use Rattle.dialect_parsing.specs.Spelling.{written, listed, IsOfDialect, AreOfDialect}

abbrev pub is_width : ℕ → Bool
is_width w = nat_le 1 w && nat_le w (2 ^ 23)

abbrev pub is_space : ℕ → Bool
is_space n = nat_lt n (2 ^ 24)

-- a sign that stands behind the last type of a list
abbrev pub closes : Symbol → Bool
closes S.CloseParen = true
closes S.CloseBrace = true
closes _ = false

-- the first of the symbols is no name
abbrev pub IsNoName : List Symbol → Type 0
IsNoName symbols = (n : List ℕ) (left : List Symbol) → symbols ≡ S.Name n ∷ left → ⊥

-- where there are these structs with names
module _ (structs : List NamedStruct) where
  -- the symbols write the type, before those that are left, and it nests as deep as there is room at most
  pub record IsRead (room : ℕ) (symbols : List Symbol) (t : TypeTree) (left : List Symbol) : Type 0 where
    pub is : symbols ≡ written t left
    pub fine : IsOfDialect structs t
    pub fits : depth t ≤ room

  -- the symbols begin with no type
  abbrev pub IsNoType : ℕ → List Symbol → Type 0
  IsNoType room symbols = (t : TypeTree) (left : List Symbol) → IsRead room symbols t left → ⊥

  -- the symbols write the types with commas between them, and that sign behind them
  pub record AreRead (room : ℕ) (close : Symbol) (symbols : List Symbol) (ts : TypeTrees) (left : List Symbol) : Type 0 where
    pub is : symbols ≡ listed ts (close ∷ left)
    pub fine : AreOfDialect structs ts
    pub fits : depths ts ≤ room

  abbrev pub AreNoTypes : ℕ → Symbol → List Symbol → Type 0
  AreNoTypes room close symbols = (ts : TypeTrees) (left : List Symbol) → AreRead room close symbols ts left → ⊥

  -- the symbols write how many there are of the type, and the type
  pub record IsCounted (room : ℕ) (symbols : List Symbol) (count : ℕ) (t : TypeTree) (left : List Symbol) : Type 0 where
    pub is : symbols ≡ S.Number count ∷ S.Times ∷ written t (S.CloseBracket ∷ left)
    pub fine : IsOfDialect structs t
    pub fits : depth t ≤ room

  abbrev pub IsNotCounted : ℕ → List Symbol → Type 0
  IsNotCounted room symbols = (n : ℕ) (t : TypeTree) (left : List Symbol) → IsCounted room symbols n t left → ⊥
