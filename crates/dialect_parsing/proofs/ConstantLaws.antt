-- Symbols write one constant at most, before what stands behind it, and one list of constants or of numbers.
use Rattle.std.proofs.Common.{◌≡◌, ◌<◌, ◌≤◌, ℕ, true, List, [], ◌∷◌, length, refl, sym, subst, ap, ◌∙◌, arith}
use Rattle.std.proofs.lemmas.Option.{same_Some}
use Rattle.kinds.specs.Types.{shape}
use Rattle.kinds.specs.Fitting.{is_number}
use Rattle.dialect_types.specs.Trees.{NamedStruct, TypeTree, VoidType, IntType, PointerType, FloatingType, RefusedType, ArrayType, VectorType, StructType, NamedType, FunctionType}
use Rattle.const_attrs.specs.Trees.{AttrTree, AttrTrees, IntegerAttr, FilledAttr, BytesAttr, AggregateAttr, SplatAttr, NoAttrs, ThenAttr, attr_depth}
use Rattle.dialect_parsing.specs.declared.symbol.Symbol.{Symbol}
use Rattle.dialect_parsing.specs.declared.symbol.Symbol.TheVariants as S
use Rattle.dialect_parsing.specs.ConstantReading.{IsEndRead, IsNoEnd, IsAttrRead, IsNoAttr}
use Rattle.dialect_parsing.specs.Constants.{inner_written, other_numbers, listed_numbers, attr_written, listed_attrs, other_attrs, IsAttrOfDialect, AreAttrsOfDialect, SpellsAttr}
use Rattle.dialect_parsing.specs.Spelling.{written}
use Rattle.dialect_parsing.specs.Tokens.{Text}
use Rattle.dialect_parsing.proofs.ReadingLaws.{one, longer}

-- ---- the type of an integer, and numbers

-- an integer type, inside the text of an integer
pub record IsInner (t : TypeTree) (ss : List Symbol) : Type 0 where
  pub width : ℕ
  pub type : t ≡ IntType width
  pub is : inner_written t ss ≡ S.Bits width ∷ ss

pub inner : (t : TypeTree) (ss : List Symbol) → is_number (shape t) ≡ true → IsInner t ss
inner VoidType ss h = cc
inner (IntType w) ss h = record { width = w; type = refl; is = refl }
inner (PointerType n) ss h = cc
inner (FloatingType of) ss h = cc
inner (RefusedType of) ss h = cc
inner (ArrayType n t) ss h = cc
inner (VectorType k n t) ss h = cc
inner (StructType l ts) ss h = cc
inner (NamedType name) ss h = cc
inner (FunctionType r ps v) ss h = cc

one_inner : (t u : TypeTree) (ss us : List Symbol) → is_number (shape t) ≡ true → is_number (shape u) ≡ true → inner_written t ss ≡ inner_written u us → (t ≡ u) × (ss ≡ us)
one_inner t u ss us ft fu e =
    let x = inner t ss ft in
    let y = inner u us fu in
    let both : S.Bits x.width ∷ ss ≡ S.Bits y.width ∷ us = sym x.is ∙ e ∙ y.is in
    let a = x.type in
    let b = y.type in
    (cc, cc)

one_others : (ns ms : List ℕ) (ss us : List Symbol) → other_numbers ns (S.CloseBracket ∷ ss) ≡ other_numbers ms (S.CloseBracket ∷ us) → (ns ≡ ms) × (ss ≡ us)
one_others [] [] ss us e = (refl, cc)
one_others [] (m ∷ ms) ss us e = cc
one_others (n ∷ ns) [] ss us e = cc
one_others (n ∷ ns) (m ∷ ms) ss us e =
    let k = one_others ns ms ss us (cc) in
    let a = k.0 in
    (cc, k.1)

pub one_numbers : (ns ms : List ℕ) (ss us : List Symbol) → listed_numbers ns (S.CloseBracket ∷ ss) ≡ listed_numbers ms (S.CloseBracket ∷ us) → (ns ≡ ms) × (ss ≡ us)
one_numbers [] [] ss us e = (refl, cc)
one_numbers [] (m ∷ ms) ss us e = cc
one_numbers (n ∷ ns) [] ss us e = cc
one_numbers (n ∷ ns) (m ∷ ms) ss us e =
    let k = one_others ns ms ss us (cc) in
    let a = k.0 in
    (cc, k.1)

-- ---- no constant begins with a bracket

pub not_attr : (c : AttrTree) (ss us : List Symbol) → S.CloseBracket ∷ ss ≡ attr_written c us → ⊥
not_attr (IntegerAttr t n) ss us e = cc
not_attr (FilledAttr f t) ss us e = cc
not_attr (BytesAttr bs) ss us e = cc
not_attr (AggregateAttr cs t) ss us e = cc
not_attr (SplatAttr c t) ss us e = cc

attr_depth-pos : (c : AttrTree) → 1 ≤ attr_depth c
attr_depth-pos (IntegerAttr t n) = omega arith
attr_depth-pos (FilledAttr f t) = omega arith
attr_depth-pos (BytesAttr bs) = omega arith
attr_depth-pos (AggregateAttr cs t) = omega arith
attr_depth-pos (SplatAttr c t) = omega arith

module _ (structs : List NamedStruct) where
  -- ---- one constant, and one list

  mutual
    pub one_attr : (c d : AttrTree) (ss us : List Symbol) → IsAttrOfDialect structs c → IsAttrOfDialect structs d → attr_written c ss ≡ attr_written d us → (c ≡ d) × (ss ≡ us)
    one_attr (IntegerAttr t n) (IntegerAttr u m) ss us fc fd e =
        let k = one_inner t u (S.Greater ∷ ss) (S.Greater ∷ us) fc.0 fd.0 (cc) in
        let a = k.0 in
        let b = k.1 in
        (cc, cc)
    one_attr (FilledAttr f t) (FilledAttr g u) ss us fc fd e =
        let k = one structs t u (S.Greater ∷ ss) (S.Greater ∷ us) fc.0 fd.0 (cc) in
        let a = k.0 in
        let b = k.1 in
        (cc, cc)
    one_attr (BytesAttr bs) (BytesAttr ds) ss us fc fd e =
        let k = one_numbers bs ds (S.Greater ∷ ss) (S.Greater ∷ us) (cc) in
        let a = k.0 in
        let b = k.1 in
        (cc, cc)
    one_attr (AggregateAttr cs t) (AggregateAttr ds u) ss us fc fd e =
        let l = one_attrs cs ds (S.Colon ∷ written t (S.Greater ∷ ss)) (S.Colon ∷ written u (S.Greater ∷ us)) fc.0 fd.0 (cc) in
        let c = l.0 in
        let d = l.1 in
        let k = one structs t u (S.Greater ∷ ss) (S.Greater ∷ us) fc.1.0 fd.1.0 (cc) in
        let a = k.0 in
        let b = k.1 in
        (cc, cc)
    one_attr (SplatAttr c t) (SplatAttr d u) ss us fc fd e =
        let l = one_attr c d (S.Colon ∷ written t (S.Greater ∷ ss)) (S.Colon ∷ written u (S.Greater ∷ us)) fc.0 fd.0 (cc) in
        let f = l.0 in
        let g = l.1 in
        let k = one structs t u (S.Greater ∷ ss) (S.Greater ∷ us) fc.1.0 fd.1.0 (cc) in
        let a = k.0 in
        let b = k.1 in
        (cc, cc)
    one_attr c d ss us fc fd e = cc

    pub one_attrs : (cs ds : AttrTrees) (ss us : List Symbol) → AreAttrsOfDialect structs cs → AreAttrsOfDialect structs ds → listed_attrs cs (S.CloseBracket ∷ ss) ≡ listed_attrs ds (S.CloseBracket ∷ us) → (cs ≡ ds) × (ss ≡ us)
    one_attrs NoAttrs NoAttrs ss us fc fd e = (refl, cc)
    one_attrs NoAttrs (ThenAttr d ds) ss us fc fd e = absurd (not_attr d ss _ e)
    one_attrs (ThenAttr c cs) NoAttrs ss us fc fd e = absurd (not_attr c us _ (sym e))
    one_attrs (ThenAttr c cs) (ThenAttr d ds) ss us fc fd e =
        let k = one_attr c d (other_attrs cs (S.CloseBracket ∷ ss)) (other_attrs ds (S.CloseBracket ∷ us)) fc.0 fd.0 e in
        let a = k.0 in
        let l = one_rest cs ds ss us fc.1 fd.1 k.1 in
        let b = l.0 in
        (cc, l.1)

    one_rest : (cs ds : AttrTrees) (ss us : List Symbol) → AreAttrsOfDialect structs cs → AreAttrsOfDialect structs ds → other_attrs cs (S.CloseBracket ∷ ss) ≡ other_attrs ds (S.CloseBracket ∷ us) → (cs ≡ ds) × (ss ≡ us)
    one_rest NoAttrs NoAttrs ss us fc fd e = (refl, cc)
    one_rest NoAttrs (ThenAttr d ds) ss us fc fd e = cc
    one_rest (ThenAttr c cs) NoAttrs ss us fc fd e = cc
    one_rest (ThenAttr c cs) (ThenAttr d ds) ss us fc fd e =
        let k = one_attr c d (other_attrs cs (S.CloseBracket ∷ ss)) (other_attrs ds (S.CloseBracket ∷ us)) fc.0 fd.0 (cc) in
        let a = k.0 in
        let l = one_rest cs ds ss us fc.1 fd.1 k.1 in
        let b = l.0 in
        (cc, l.1)

  pub one_constant : (bytes : Text) (c d : AttrTree) → SpellsAttr structs bytes c → SpellsAttr structs bytes d → c ≡ d
  one_constant bytes c d h k = (one_attr c d [] [] h.1 k.1 (same_Some _ _ (sym h.0 ∙ k.0))).0

  -- ---- a constant is written as one symbol at least

  longer_others : (ns : List ℕ) (ss : List Symbol) → length ss ≤ length (other_numbers ns ss)
  longer_others [] ss = omega arith
  longer_others (n ∷ ns) ss = omega (arith, longer_others ns ss)

  longer_numbers : (ns : List ℕ) (ss : List Symbol) → length ss ≤ length (listed_numbers ns ss)
  longer_numbers [] ss = omega arith
  longer_numbers (n ∷ ns) ss = omega (arith, longer_others ns ss)

  longer_inner : (t : TypeTree) (ss : List Symbol) → is_number (shape t) ≡ true → length ss ≤ length (inner_written t ss)
  longer_inner t ss h = let x = inner t ss h in omega (arith, ap length x.is)

  mutual
    longer_attr : (c : AttrTree) (ss : List Symbol) → IsAttrOfDialect structs c → length ss < length (attr_written c ss)
    longer_attr (IntegerAttr t n) ss fine = omega (arith, longer_inner t (S.Greater ∷ ss) fine.0)
    longer_attr (FilledAttr f t) ss fine = omega (arith, longer structs t (S.Greater ∷ ss) fine.0)
    longer_attr (BytesAttr bs) ss fine = omega (arith, longer_numbers bs (S.CloseBracket ∷ S.Greater ∷ ss))
    longer_attr (AggregateAttr cs t) ss fine =
        omega (arith, longer_attrs cs (S.CloseBracket ∷ S.Colon ∷ written t (S.Greater ∷ ss)) fine.0, longer structs t (S.Greater ∷ ss) fine.1.0)
    longer_attr (SplatAttr c t) ss fine = omega (arith, longer_attr c (S.Colon ∷ written t (S.Greater ∷ ss)) fine.0, longer structs t (S.Greater ∷ ss) fine.1.0)

    longer_attrs : (cs : AttrTrees) (ss : List Symbol) → AreAttrsOfDialect structs cs → length ss ≤ length (listed_attrs cs ss)
    longer_attrs NoAttrs ss fine = omega arith
    longer_attrs (ThenAttr c cs) ss fine = omega (arith, longer_attr c (other_attrs cs ss) fine.0, longer_rest cs ss fine.1)

    longer_rest : (cs : AttrTrees) (ss : List Symbol) → AreAttrsOfDialect structs cs → length ss ≤ length (other_attrs cs ss)
    longer_rest NoAttrs ss fine = omega arith
    longer_rest (ThenAttr c cs) ss fine = omega (arith, longer_attr c (other_attrs cs ss) fine.0, longer_rest cs ss fine.1)

  -- ---- a constant that was read

  pub attr_shorter : (room : ℕ) (c : AttrTree) (ss us : List Symbol) → IsAttrRead structs room ss c us → length us < length ss
  attr_shorter room c ss us h = omega (arith, longer_attr c us h.fine, ap length h.is)

  -- where there is no room
  pub no_attr_room : (room : ℕ) (ss : List Symbol) → room ≡ 0 → IsNoAttr structs room ss
  no_attr_room room ss none c us h = let least = attr_depth-pos c in let most = h.fits in omega arith

  -- where no symbol is left
  pub no_attr_symbol : (room : ℕ) → IsNoAttr structs room []
  no_attr_symbol room c us h = let l = attr_shorter room c [] us h in omega arith

  -- where there is more room, and the same symbols
  pub attr_at : (room more : ℕ) (ss us left : List Symbol) (c : AttrTree) → ss ≡ us → room ≤ more → IsAttrRead structs room us c left → IsAttrRead structs more ss c left
  attr_at room more ss us left c same wide h = let fits = h.fits in record { is = same ∙ h.is; fine = h.fine; fits = omega arith }

  pub no_attr_at : (room : ℕ) (ss us : List Symbol) → ss ≡ us → IsNoAttr structs room us → IsNoAttr structs room ss
  no_attr_at room ss us same h = subst (IsNoAttr structs room) (sym same) h

  -- what was read is the only one
  pub attr_read_one : (room more : ℕ) (c d : AttrTree) (ss us vs : List Symbol) → IsAttrRead structs room ss c us → IsAttrRead structs more ss d vs → (c ≡ d) × (us ≡ vs)
  attr_read_one room more c d ss us vs h k = one_attr c d us vs h.fine k.fine (sym h.is ∙ k.is)

-- ---- the same structs

pub attr_still : (a b : List NamedStruct) (room : ℕ) (ss left : List Symbol) (c : AttrTree) → a ≡ b → IsAttrRead a room ss c left → IsAttrRead b room ss c left
attr_still a b room ss left c e h = subst (λ (x : List NamedStruct). IsAttrRead x room ss c left) e h

pub no_attr_still : (a b : List NamedStruct) (room : ℕ) (ss : List Symbol) → a ≡ b → IsNoAttr a room ss → IsNoAttr b room ss
no_attr_still a b room ss e h = subst (λ (x : List NamedStruct). IsNoAttr x room ss) e h

pub end_still : (a b : List NamedStruct) (ss left : List Symbol) (t : TypeTree) → a ≡ b → IsEndRead a ss t left → IsEndRead b ss t left
end_still a b ss left t e h = subst (λ (x : List NamedStruct). IsEndRead x ss t left) e h

pub no_end_still : (a b : List NamedStruct) (ss : List Symbol) → a ≡ b → IsNoEnd a ss → IsNoEnd b ss
no_end_still a b ss e h = subst (λ (x : List NamedStruct). IsNoEnd x ss) e h
