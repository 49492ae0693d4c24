-- Symbols write one type at most, before what stands behind it, and one list of types.
use Rattle.std.proofs.Common.{◌≡◌, ◌<◌, ◌≤◌, ℕ, Bool, true, false, List, [], ◌∷◌, length, refl, sym, subst, ap, ◌∙◌, arith}
use Rattle.std.proofs.lemmas.Option.{same_Some}
use Rattle.kinds.specs.declared.types.VectorTypeKind.{VectorTypeKind}
use Rattle.kinds.specs.declared.types.VectorTypeKind.TheVariants as V
use Rattle.kinds.specs.declared.types.StructLayout.{StructLayout}
use Rattle.kinds.specs.declared.types.StructLayout.TheVariants as L
use Rattle.kinds.specs.Types.{depth}
use Rattle.dialect_types.specs.Trees.{NamedStruct, TypeTree, VoidType, IntType, PointerType, FloatingType, RefusedType, ArrayType, VectorType, StructType, NamedType, FunctionType, TypeTrees, NoTypes, ThenType}
use Rattle.dialect_parsing.specs.declared.symbol.Symbol.{Symbol}
use Rattle.dialect_parsing.specs.declared.symbol.Symbol.TheVariants as S
use Rattle.dialect_parsing.specs.Reading.{closes, IsRead, IsNoType, AreRead, AreNoTypes}
use Rattle.dialect_parsing.specs.Spelling.{scaled, laid, written, listed, others, IsOfDialect, AreOfDialect, Spells}
use Rattle.dialect_parsing.specs.Tokens.{Text}

-- ---- the words before a number of elements and before fields

pub one_scale : (k l : VectorTypeKind) (n m : ℕ) (ss us : List Symbol) → scaled k (S.Number n ∷ ss) ≡ scaled l (S.Number m ∷ us) → (k ≡ l) × (n ≡ m) × (ss ≡ us)
one_scale V.Fixed V.Fixed n m ss us e = (refl, cc, cc)
one_scale V.Fixed V.Scalable n m ss us e = cc
one_scale V.Scalable V.Fixed n m ss us e = cc
one_scale V.Scalable V.Scalable n m ss us e = (refl, cc, cc)

pub one_layout : (l k : StructLayout) (ss us : List Symbol) → laid l (S.OpenBrace ∷ ss) ≡ laid k (S.OpenBrace ∷ us) → (l ≡ k) × (ss ≡ us)
one_layout L.Unpacked L.Unpacked ss us e = (refl, cc)
one_layout L.Unpacked L.Packed ss us e = cc
one_layout L.Packed L.Unpacked ss us e = cc
one_layout L.Packed L.Packed ss us e = (refl, cc)

-- ---- no type begins with a sign that closes a list, and no comma is one

abbrev begins_closed : List Symbol → Bool
begins_closed [] = false
begins_closed (s ∷ ss) = closes s

pub not_comma : (c : Symbol) (ss us : List Symbol) → closes c ≡ true → c ∷ ss ≡ S.Comma ∷ us → ⊥
not_comma c ss us close e =
    let both : true ≡ false = sym close ∙ ap begins_closed e in
    cc

-- nor is a name what stands before fields
no_layout : (l : StructLayout) (n : List ℕ) (ss us : List Symbol) → S.Name n ∷ ss ≡ laid l (S.OpenBrace ∷ us) → ⊥
no_layout L.Unpacked n ss us e = cc
no_layout L.Packed n ss us e = cc

-- ---- words make symbols more, and a type is one deep at least

longer_scale : (k : VectorTypeKind) (ss : List Symbol) → length ss ≤ length (scaled k ss)
longer_scale V.Fixed ss = omega arith
longer_scale V.Scalable ss = omega arith

longer_layout : (l : StructLayout) (ss : List Symbol) → length ss ≤ length (laid l ss)
longer_layout L.Unpacked ss = omega arith
longer_layout L.Packed ss = omega arith

depth-pos : (t : TypeTree) → 1 ≤ depth t
depth-pos (ArrayType n t) = omega arith
depth-pos (VectorType k n t) = omega arith
depth-pos (StructType l ts) = omega arith
depth-pos (FunctionType r ps v) = omega arith
depth-pos t = omega arith

module _ (structs : List NamedStruct) where
  type_opens : (t : TypeTree) (ss : List Symbol) → IsOfDialect structs t → begins_closed (written t ss) ≡ false
  type_opens (RefusedType of) ss fine = absurd fine
  type_opens t ss fine = refl

  pub not_type : (c : Symbol) (t : TypeTree) (ss us : List Symbol) → closes c ≡ true → IsOfDialect structs t → c ∷ ss ≡ written t us → ⊥
  not_type c t ss us close fine e =
      let both : true ≡ false = sym close ∙ ap begins_closed e ∙ type_opens t us fine in
      cc

  -- ---- one type, and one list

  mutual
    pub one : (t u : TypeTree) (ss us : List Symbol) → IsOfDialect structs t → IsOfDialect structs u → written t ss ≡ written u us → (t ≡ u) × (ss ≡ us)
    one (RefusedType of) u ss us ft fu e = absurd ft
    one t (RefusedType of) ss us ft fu e = absurd fu
    one VoidType VoidType ss us ft fu e = (refl, cc)
    one (IntType w) (IntType v) ss us ft fu e = (cc, cc)
    one (PointerType m) (PointerType n) ss us ft fu e = (cc, cc)
    one (FloatingType a) (FloatingType b) ss us ft fu e = (cc, cc)
    one (ArrayType m t) (ArrayType n u) ss us ft fu e =
        let k = one t u (S.CloseBracket ∷ ss) (S.CloseBracket ∷ us) ft.1 fu.1 (cc) in
        let a = k.0 in
        let b = k.1 in
        (cc, cc)
    one (VectorType j m t) (VectorType l n u) ss us ft fu e =
        let s = one_scale j l m n (S.Times ∷ written t (S.CloseBracket ∷ ss)) (S.Times ∷ written u (S.CloseBracket ∷ us)) (cc) in
        let c = s.0 in
        let d = s.1 in
        let f = s.2 in
        let k = one t u (S.CloseBracket ∷ ss) (S.CloseBracket ∷ us) ft.1 fu.1 (cc) in
        let a = k.0 in
        let b = k.1 in
        (cc, cc)
    one (StructType j ts) (StructType l vs) ss us ft fu e =
        let s = one_layout j l (listed ts (S.CloseBrace ∷ S.Greater ∷ ss)) (listed vs (S.CloseBrace ∷ S.Greater ∷ us)) (cc) in
        let c = s.0 in
        let k = one_list S.CloseBrace ts vs (S.Greater ∷ ss) (S.Greater ∷ us) refl ft.1 fu.1 s.1 in
        let a = k.0 in
        let b = k.1 in
        (cc, cc)
    one (NamedType a) (NamedType b) ss us ft fu e = (cc, cc)
    one (NamedType a) (StructType l vs) ss us ft fu e = absurd (no_layout l a (S.Greater ∷ ss) (listed vs (S.CloseBrace ∷ S.Greater ∷ us)) (cc))
    one (StructType j ts) (NamedType b) ss us ft fu e = absurd (no_layout j b (S.Greater ∷ us) (listed ts (S.CloseBrace ∷ S.Greater ∷ ss)) (cc))
    one (FunctionType r ps v) (FunctionType q qs w) ss us ft fu e =
        let end = S.Variadic ∷ S.Equals ∷ S.Truth v ∷ S.Greater ∷ ss in
        let stop = S.Variadic ∷ S.Equals ∷ S.Truth w ∷ S.Greater ∷ us in
        let k = one r q (S.OpenParen ∷ listed ps (S.CloseParen ∷ end)) (S.OpenParen ∷ listed qs (S.CloseParen ∷ stop)) ft.0 fu.0 (cc) in
        let a = k.0 in
        let b = k.1 in
        let l = one_list S.CloseParen ps qs end stop refl ft.1 fu.1 (cc) in
        let c = l.0 in
        let d = l.1 in
        (cc, cc)
    one t u ss us ft fu e = cc

    pub one_list : (c : Symbol) (ts us : TypeTrees) (ss vs : List Symbol) → closes c ≡ true → AreOfDialect structs ts → AreOfDialect structs us → listed ts (c ∷ ss) ≡ listed us (c ∷ vs) → (ts ≡ us) × (ss ≡ vs)
    one_list c NoTypes NoTypes ss vs close ft fu e = (refl, cc)
    one_list c NoTypes (ThenType u us) ss vs close ft fu e = absurd (not_type c u ss _ close fu.0 e)
    one_list c (ThenType t ts) NoTypes ss vs close ft fu e = absurd (not_type c t vs _ close ft.0 (sym e))
    one_list c (ThenType t ts) (ThenType u us) ss vs close ft fu e =
        let k = one t u (others ts (c ∷ ss)) (others us (c ∷ vs)) ft.0 fu.0 e in
        let a = k.0 in
        let l = one_others c ts us ss vs close ft.1 fu.1 k.1 in
        let b = l.0 in
        (cc, l.1)

    one_others : (c : Symbol) (ts us : TypeTrees) (ss vs : List Symbol) → closes c ≡ true → AreOfDialect structs ts → AreOfDialect structs us → others ts (c ∷ ss) ≡ others us (c ∷ vs) → (ts ≡ us) × (ss ≡ vs)
    one_others c NoTypes NoTypes ss vs close ft fu e = (refl, cc)
    one_others c NoTypes (ThenType u us) ss vs close ft fu e = absurd (not_comma c ss _ close e)
    one_others c (ThenType t ts) NoTypes ss vs close ft fu e = absurd (not_comma c vs _ close (sym e))
    one_others c (ThenType t ts) (ThenType u us) ss vs close ft fu e =
        let k = one t u (others ts (c ∷ ss)) (others us (c ∷ vs)) ft.0 fu.0 (cc) in
        let a = k.0 in
        let l = one_others c ts us ss vs close ft.1 fu.1 k.1 in
        let b = l.0 in
        (cc, l.1)

  pub one_type : (bytes : Text) (t u : TypeTree) → Spells structs bytes t → Spells structs bytes u → t ≡ u
  one_type bytes t u h k = (one t u [] [] h.1 k.1 (same_Some _ _ (sym h.0 ∙ k.0))).0

  -- ---- a type is written as one symbol at least

  mutual
    pub longer : (t : TypeTree) (ss : List Symbol) → IsOfDialect structs t → length ss < length (written t ss)
    longer VoidType ss fine = omega arith
    longer (IntType w) ss fine = omega arith
    longer (PointerType n) ss fine = omega arith
    longer (FloatingType of) ss fine = omega arith
    longer (RefusedType of) ss fine = absurd fine
    longer (NamedType name) ss fine = omega arith
    longer (ArrayType n t) ss fine = omega (arith, longer t (S.CloseBracket ∷ ss) fine.1)
    longer (VectorType k n t) ss fine = omega (arith, longer t (S.CloseBracket ∷ ss) fine.1, longer_scale k (S.Number n ∷ S.Times ∷ written t (S.CloseBracket ∷ ss)))
    longer (StructType l ts) ss fine =
        omega (arith, longer_list ts (S.CloseBrace ∷ S.Greater ∷ ss) fine.1, longer_layout l (S.OpenBrace ∷ listed ts (S.CloseBrace ∷ S.Greater ∷ ss)))
    longer (FunctionType r ps v) ss fine =
        let end = S.CloseParen ∷ S.Variadic ∷ S.Equals ∷ S.Truth v ∷ S.Greater ∷ ss in
        omega (arith, longer r (S.OpenParen ∷ listed ps end) fine.0, longer_list ps end fine.1)

    longer_list : (ts : TypeTrees) (ss : List Symbol) → AreOfDialect structs ts → length ss ≤ length (listed ts ss)
    longer_list NoTypes ss fine = omega arith
    longer_list (ThenType t ts) ss fine = omega (arith, longer t (others ts ss) fine.0, longer_others ts ss fine.1)

    longer_others : (ts : TypeTrees) (ss : List Symbol) → AreOfDialect structs ts → length ss ≤ length (others ts ss)
    longer_others NoTypes ss fine = omega arith
    longer_others (ThenType t ts) ss fine = omega (arith, longer t (others ts ss) fine.0, longer_others ts ss fine.1)

  -- ---- a type that was read

  pub read_shorter : (room : ℕ) (t : TypeTree) (ss us : List Symbol) → IsRead structs room ss t us → length us < length ss
  read_shorter room t ss us h = omega (arith, longer t us h.fine, ap length h.is)

  -- where there is no room
  pub no_room : (ss : List Symbol) (t : TypeTree) (us : List Symbol) → IsRead structs 0 ss t us → ⊥
  no_room ss t us h = let least = depth-pos t in let most = h.fits in omega arith

  -- where no symbol is left
  pub no_symbol : (room : ℕ) (t : TypeTree) (us : List Symbol) → IsRead structs room [] t us → ⊥
  no_symbol room t us h = let l = read_shorter room t [] us h in omega arith

  -- the type that was read is the only one
  pub read_one : (room more : ℕ) (t u : TypeTree) (ss us vs : List Symbol) → IsRead structs room ss t us → IsRead structs more ss u vs → (t ≡ u) × (us ≡ vs)
  read_one room more t u ss us vs h k = one t u us vs h.fine k.fine (sym h.is ∙ k.is)

-- ---- the same structs

pub read_still : (a b : List NamedStruct) (room : ℕ) (ss left : List Symbol) (t : TypeTree) → a ≡ b → IsRead a room ss t left → IsRead b room ss t left
read_still a b room ss left t e h = subst (λ (x : List NamedStruct). IsRead x room ss t left) e h

pub no_type_still : (a b : List NamedStruct) (room : ℕ) (ss : List Symbol) → a ≡ b → IsNoType a room ss → IsNoType b room ss
no_type_still a b room ss e h = subst (λ (x : List NamedStruct). IsNoType x room ss) e h

pub list_still : (a b : List NamedStruct) (room : ℕ) (c : Symbol) (ss left : List Symbol) (ts : TypeTrees) → a ≡ b → AreRead a room c ss ts left → AreRead b room c ss ts left
list_still a b room c ss left ts e h = subst (λ (x : List NamedStruct). AreRead x room c ss ts left) e h

pub no_list_still : (a b : List NamedStruct) (room : ℕ) (c : Symbol) (ss : List Symbol) → a ≡ b → AreNoTypes a room c ss → AreNoTypes b room c ss
no_list_still a b room c ss e h = subst (λ (x : List NamedStruct). AreNoTypes x room c ss) e h
