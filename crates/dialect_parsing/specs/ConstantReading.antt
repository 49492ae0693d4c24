-- A constant, or constants, that the first of some symbols are what is written of. No clause of another crate cites this.
use Rattle.std.specs.Prelude.{ℕ, ◌≡◌, ◌≤◌, ◌<◌, All, List, ◌∷◌}
use Rattle.dialect_types.specs.Trees.{NamedStruct, TypeTree}
use Rattle.const_attrs.specs.Trees.{AttrTree, AttrTrees, attr_depth, attrs_depth}
use Rattle.dialect_parsing.specs.declared.symbol.Symbol.{Symbol}
use Rattle.dialect_parsing.specs.declared.symbol.Symbol.TheVariants as S
use Rattle.dialect_parsing.specs.Constants.{attr_written, listed_attrs, listed_numbers, IsAttrOfDialect, AreAttrsOfDialect, IsSpelledType}
use Rattle.dialect_parsing.specs.Spelling.{written}

-- the symbols write bytes with commas between them, and the bracket behind them
pub record AreBytesRead (symbols : List Symbol) (bytes : List ℕ) (left : List Symbol) : Type 0 where
  pub is : symbols ≡ listed_numbers bytes (S.CloseBracket ∷ left)
  pub small : All (λ (b : ℕ). b < 256) bytes

abbrev pub AreNoBytes : List Symbol → Type 0
AreNoBytes symbols = (bytes : List ℕ) (left : List Symbol) → AreBytesRead symbols bytes left → ⊥

-- where there are these structs with names
module _ (structs : List NamedStruct) where
  -- the symbols write a type that a text spells, and the sign that closes a constant behind it
  pub record IsEndRead (symbols : List Symbol) (t : TypeTree) (left : List Symbol) : Type 0 where
    pub is : symbols ≡ written t (S.Greater ∷ left)
    pub spelled : IsSpelledType structs t

  abbrev pub IsNoEnd : List Symbol → Type 0
  IsNoEnd symbols = (t : TypeTree) (left : List Symbol) → IsEndRead symbols t left → ⊥

  -- the symbols write the constant, before those that are left, and it nests as deep as there is room at most
  pub record IsAttrRead (room : ℕ) (symbols : List Symbol) (c : AttrTree) (left : List Symbol) : Type 0 where
    pub is : symbols ≡ attr_written c left
    pub fine : IsAttrOfDialect structs c
    pub fits : attr_depth c ≤ room

  -- the symbols begin with no constant
  abbrev pub IsNoAttr : ℕ → List Symbol → Type 0
  IsNoAttr room symbols = (c : AttrTree) (left : List Symbol) → IsAttrRead room symbols c left → ⊥

  -- the symbols write the constants with commas between them, and the bracket behind them
  pub record AreAttrsRead (room : ℕ) (symbols : List Symbol) (cs : AttrTrees) (left : List Symbol) : Type 0 where
    pub is : symbols ≡ listed_attrs cs (S.CloseBracket ∷ left)
    pub fine : AreAttrsOfDialect structs cs
    pub fits : attrs_depth cs ≤ room

  abbrev pub AreNoAttrs : ℕ → List Symbol → Type 0
  AreNoAttrs room symbols = (cs : AttrTrees) (left : List Symbol) → AreAttrsRead room symbols cs left → ⊥
