-- What a constant is written as, and the texts that spell it.
use Rattle.std.specs.Prelude.{◌≡◌, ◌<◌, ◌≤◌, ◌^◌, true, All, List, [], ◌∷◌, ℕ, Some}
use Rattle.kinds.specs.Types.{depth, shape}
use Rattle.kinds.specs.Fitting.{is_number}
use Rattle.dialect_types.specs.Trees.{NamedStruct, TypeTree, IntType}
use Rattle.const_attrs.specs.Trees.{AttrTree, AttrTrees, IntegerAttr, FilledAttr, BytesAttr, AggregateAttr, SplatAttr, NoAttrs, ThenAttr, attr_depth}
use Rattle.dialect_parsing.specs.declared.symbol.Symbol.{Symbol}
use Rattle.dialect_parsing.specs.declared.symbol.Symbol.TheVariants as S
use Rattle.dialect_parsing.specs.Spelling.{written, IsOfDialect}
use Rattle.dialect_parsing.specs.Symbols.{symbols_of}
use Rattle.dialect_parsing.specs.Tokens.{Text}

-- the type of an integer inside the text of the integer; the dialect has no text of an integer of any other type
abbrev pub inner_written : TypeTree → List Symbol → List Symbol
inner_written (IntType w) ss = S.Bits w ∷ ss
inner_written _ ss = ss

-- each number behind a comma
abbrev pub other_numbers : List ℕ → List Symbol → List Symbol
other_numbers [] ss = ss
other_numbers (n ∷ ns) ss = S.Comma ∷ S.Number n ∷ other_numbers ns ss

-- numbers with commas between them
abbrev pub listed_numbers : List ℕ → List Symbol → List Symbol
listed_numbers [] ss = ss
listed_numbers (n ∷ ns) ss = S.Number n ∷ other_numbers ns ss

abbrev mutual
  -- what a constant is written as, before what stands behind it: a line for each kind
  pub attr_written : AttrTree → List Symbol → List Symbol
  attr_written (IntegerAttr t value) ss = S.Integer ∷ S.Less ∷ S.Number value ∷ S.Colon ∷ inner_written t (S.Greater ∷ ss)
  attr_written (FilledAttr fill t) ss = S.Filled fill ∷ S.Less ∷ written t (S.Greater ∷ ss)
  attr_written (BytesAttr bytes) ss = S.Bytes ∷ S.Less ∷ S.OpenBracket ∷ listed_numbers bytes (S.CloseBracket ∷ S.Greater ∷ ss)
  attr_written (AggregateAttr cs t) ss = S.Aggregate ∷ S.Less ∷ S.OpenBracket ∷ listed_attrs cs (S.CloseBracket ∷ S.Colon ∷ written t (S.Greater ∷ ss))
  attr_written (SplatAttr c t) ss = S.Splat ∷ S.Less ∷ attr_written c (S.Colon ∷ written t (S.Greater ∷ ss))

  -- constants with commas between them
  pub listed_attrs : AttrTrees → List Symbol → List Symbol
  listed_attrs NoAttrs ss = ss
  listed_attrs (ThenAttr c cs) ss = attr_written c (other_attrs cs ss)

  -- each constant behind a comma
  pub other_attrs : AttrTrees → List Symbol → List Symbol
  other_attrs NoAttrs ss = ss
  other_attrs (ThenAttr c cs) ss = S.Comma ∷ attr_written c (other_attrs cs ss)

module _ (structs : List NamedStruct) where
  -- a type that a text spells
  abbrev pub IsSpelledType : TypeTree → Type 0
  IsSpelledType t = IsOfDialect structs t × (depth t ≤ 1000)

  abbrev mutual
    -- A constant that the dialect has a text of: its types are such as a text spells, an integer is one of an integer type and
    -- below 2^64, and bytes are below 256. Whether it keeps the rules of constants is not asked.
    pub IsAttrOfDialect : AttrTree → Type 0
    IsAttrOfDialect (IntegerAttr t value) = (is_number (shape t) ≡ true) × IsSpelledType t × (value < 2 ^ 64)
    IsAttrOfDialect (FilledAttr fill t) = IsSpelledType t
    IsAttrOfDialect (BytesAttr bytes) = All (λ (b : ℕ). b < 256) bytes
    IsAttrOfDialect (AggregateAttr cs t) = AreAttrsOfDialect cs × IsSpelledType t
    IsAttrOfDialect (SplatAttr c t) = IsAttrOfDialect c × IsSpelledType t

    pub AreAttrsOfDialect : AttrTrees → Type 0
    AreAttrsOfDialect NoAttrs = Unit {0}
    AreAttrsOfDialect (ThenAttr c cs) = IsAttrOfDialect c × AreAttrsOfDialect cs

  -- The text spells the constant, where there are these structs with names: its tokens say what the constant is written as,
  -- the dialect has a text of it, and it nests at most 1000 deep.
  abbrev pub SpellsAttr : Text → AttrTree → Type 0
  SpellsAttr bytes c = (symbols_of bytes ≡ Some (attr_written c [])) × IsAttrOfDialect c × (attr_depth c ≤ 1000)
