-- Types with parts, from their symbols: what makes each, and what leaves none.
use Rattle.std.proofs.Common.{◌≡◌, ◌≤◌, ◌+◌, ℕ, Bool, true, false, List, ◌∷◌, refl, sym, subst, ap, ◌∙◌, arith}
use Rattle.kinds.specs.declared.types.VectorTypeKind.{VectorTypeKind}
use Rattle.kinds.specs.declared.types.VectorTypeKind.TheVariants as V
use Rattle.kinds.specs.declared.types.StructLayout.{StructLayout}
use Rattle.kinds.specs.declared.types.StructLayout.TheVariants as L
use Rattle.kinds.specs.Types.{depth, depths, shape}
use Rattle.kinds.specs.Fitting.{is_array_of, is_vector_of}
use Rattle.dialect_types.specs.Trees.{NamedStruct, TypeTree, RefusedType, ArrayType, VectorType, StructType, NamedType, FunctionType, TypeTrees}
use Rattle.dialect_parsing.specs.declared.symbol.Symbol.{Symbol}
use Rattle.dialect_parsing.specs.declared.symbol.Symbol.TheVariants as S
use Rattle.dialect_parsing.specs.Reading.{closes, IsRead, IsNoType, AreRead, AreNoTypes, IsCounted, IsNotCounted, IsNoName}
use Rattle.dialect_parsing.specs.Spelling.{scaled, laid, written, listed, IsOfDialect, AreOfDialect, AreFields, IsThere}
use Rattle.dialect_parsing.proofs.ReadingLaws.{one, one_list, one_layout}
use Rattle.dialect_parsing.proofs.PlainLaws.{not_both}

-- what stands behind a vector's bracket, whether its number of elements is scaled
pub bracket_only : (k l : VectorTypeKind) (n : ℕ) (ss mid us : List Symbol) → ss ≡ S.OpenBracket ∷ scaled k mid → ((vs : List Symbol) → mid ≡ S.Vscale ∷ vs → ⊥) → ss ≡ S.OpenBracket ∷ scaled l (S.Number n ∷ us) → (l ≡ k) × (mid ≡ S.Number n ∷ us)
bracket_only V.Fixed V.Fixed n ss mid us a h b = (refl, cc)
bracket_only V.Fixed V.Scalable n ss mid us a h b = absurd (h (S.Number n ∷ us) (cc))
bracket_only V.Scalable V.Fixed n ss mid us a h b = cc
bracket_only V.Scalable V.Scalable n ss mid us a h b = (refl, cc)

pub scaled_only : (l : VectorTypeKind) (n : ℕ) (ss mid us : List Symbol) → ss ≡ S.OpenBracket ∷ S.Vscale ∷ mid → ss ≡ S.OpenBracket ∷ scaled l (S.Number n ∷ us) → (l ≡ V.Scalable) × (mid ≡ S.Number n ∷ us)
scaled_only V.Fixed n ss mid us a b = cc
scaled_only V.Scalable n ss mid us a b = (refl, cc)

-- the head of a vector was read, and no other may have been
abbrev pub IsOnly : VectorTypeKind → (ss mid : List Symbol) → Type 0
IsOnly k ss mid = (l : VectorTypeKind) (n : ℕ) (us : List Symbol) → ss ≡ S.OpenBracket ∷ scaled l (S.Number n ∷ us) → (l ≡ k) × (mid ≡ S.Number n ∷ us)

-- what stands behind the parameters of a function type
abbrev Ends : Bool → List Symbol → List Symbol
Ends v left = S.Variadic ∷ S.Equals ∷ S.Truth v ∷ S.Greater ∷ left

-- the word or the brace before fields is no name
laid_no_name : (l : StructLayout) (ss mid : List Symbol) → ss ≡ laid l (S.OpenBrace ∷ mid) → IsNoName ss
laid_no_name L.Unpacked ss mid a n us e = cc
laid_no_name L.Packed ss mid a n us e = cc

module _ (structs : List NamedStruct) where
  -- ---- so many of one type

  pub counted_by : (room n : ℕ) (ss mid end left : List Symbol) (t : TypeTree) → ss ≡ S.Number n ∷ S.Times ∷ mid → IsRead structs room mid t end → end ≡ S.CloseBracket ∷ left → IsCounted structs room ss n t left
  counted_by room n ss mid end left t a b c = let e = b.is in record { is = cc; fine = b.fine; fits = b.fits }

  pub no_count : (room : ℕ) (ss : List Symbol) → ((n : ℕ) (us : List Symbol) → ss ≡ S.Number n ∷ S.Times ∷ us → ⊥) → IsNotCounted structs room ss
  no_count room ss h n t left k = h n _ k.is

  pub no_element : (room n : ℕ) (ss mid : List Symbol) → ss ≡ S.Number n ∷ S.Times ∷ mid → IsNoType structs room mid → IsNotCounted structs room ss
  no_element room n ss mid a h m t left k = let e = k.is in h t (S.CloseBracket ∷ left) (record { is = cc; fine = k.fine; fits = k.fits })

  pub no_bracket : (room n : ℕ) (ss mid end : List Symbol) (t : TypeTree) → ss ≡ S.Number n ∷ S.Times ∷ mid → IsRead structs room mid t end → ((us : List Symbol) → end ≡ S.CloseBracket ∷ us → ⊥) → IsNotCounted structs room ss
  no_bracket room n ss mid end t a b h m u left k =
      let e = k.is in
      let f = b.is in
      h left (one structs t u end (S.CloseBracket ∷ left) b.fine k.fine (cc)).1

  one_counted : (room more n m : ℕ) (ss us vs : List Symbol) (t u : TypeTree) → IsCounted structs room ss n t us → IsCounted structs more ss m u vs → (n ≡ m) × (t ≡ u)
  one_counted room more n m ss us vs t u a b =
      let e = a.is in
      let f = b.is in
      (cc, (one structs t u (S.CloseBracket ∷ us) (S.CloseBracket ∷ vs) a.fine b.fine (cc)).0)

  -- ---- arrays

  pub array_by : (room : ℕ) (ss mid left : List Symbol) (n : ℕ) (t u : TypeTree) → ss ≡ S.OpenBracket ∷ mid → IsCounted structs room mid n t left → is_array_of n (shape t) ≡ true → u ≡ ArrayType n t → IsRead structs (1 + room) (S.Array ∷ ss) u left
  array_by room ss mid left n t u a b fit is =
      let e = b.is in
      let deep = b.fits in
      rw is (record { is = cc; fine = (fit, b.fine); fits = omega arith })

  record IsArray (room : ℕ) (ss left : List Symbol) : Type 0 where
    mid : List Symbol
    count : ℕ
    element : TypeTree
    is : ss ≡ S.OpenBracket ∷ mid
    counted : IsCounted structs room mid count element left
    fit : is_array_of count (shape element) ≡ true

  array_back : (room : ℕ) (ss left : List Symbol) (t : TypeTree) → IsOfDialect structs t → depth t ≤ 1 + room → S.Array ∷ ss ≡ written t left → IsArray room ss left
  array_back room ss left (RefusedType of) fine fits e = absurd fine
  array_back room ss left (ArrayType n t) fine fits e = record {
    mid = S.Number n ∷ S.Times ∷ written t (S.CloseBracket ∷ left);
    count = n;
    element = t;
    is = cc;
    counted = record { is = refl; fine = fine.1; fits = omega arith };
    fit = fine.0;
  }
  array_back room ss left t fine fits e = cc

  pub array_opens : (room : ℕ) (ss : List Symbol) → ((us : List Symbol) → ss ≡ S.OpenBracket ∷ us → ⊥) → IsNoType structs (1 + room) (S.Array ∷ ss)
  array_opens room ss h t left k = let x = array_back room ss left t k.fine k.fits k.is in h x.mid x.is

  pub array_counts : (room : ℕ) (ss mid : List Symbol) → ss ≡ S.OpenBracket ∷ mid → IsNotCounted structs room mid → IsNoType structs (1 + room) (S.Array ∷ ss)
  array_counts room ss mid a h t left k =
      let x = array_back room ss left t k.fine k.fits k.is in
      let e = x.is in
      let same : x.mid ≡ mid = cc in
      h x.count x.element left (subst (λ (y : List Symbol). IsCounted structs room y x.count x.element left) same x.counted)

  pub array_fits : (room : ℕ) (ss mid left : List Symbol) (n : ℕ) (t : TypeTree) → ss ≡ S.OpenBracket ∷ mid → IsCounted structs room mid n t left → is_array_of n (shape t) ≡ false → IsNoType structs (1 + room) (S.Array ∷ ss)
  array_fits room ss mid left n t a b h u end k =
      let x = array_back room ss end u k.fine k.fits k.is in
      let e = x.is in
      let same : x.mid ≡ mid = cc in
      let other = subst (λ (y : List Symbol). IsCounted structs room y x.count x.element end) same x.counted in
      let o = one_counted room room n x.count mid left end t x.element b other in
      not_both (is_array_of n (shape t)) (rw (o.0, o.1) x.fit) h

  -- ---- vectors

  pub vector_by : (room : ℕ) (ss mid left : List Symbol) (k : VectorTypeKind) (n : ℕ) (t u : TypeTree) → ss ≡ S.OpenBracket ∷ scaled k mid → IsCounted structs room mid n t left → is_vector_of n (shape t) ≡ true → u ≡ VectorType k n t → IsRead structs (1 + room) (S.Vector ∷ ss) u left
  vector_by room ss mid left k n t u a b fit is =
      let deep = b.fits in
      rw is (record {
        is = ap (λ (x : List Symbol). S.Vector ∷ x) (a ∙ ap (λ (x : List Symbol). S.OpenBracket ∷ scaled k x) b.is);
        fine = (fit, b.fine);
        fits = omega arith;
      })

  record IsVector (room : ℕ) (ss left : List Symbol) : Type 0 where
    kind : VectorTypeKind
    count : ℕ
    element : TypeTree
    is : ss ≡ S.OpenBracket ∷ scaled kind (S.Number count ∷ S.Times ∷ written element (S.CloseBracket ∷ left))
    fine : IsOfDialect structs element
    fits : depth element ≤ room
    fit : is_vector_of count (shape element) ≡ true

  vector_back : (room : ℕ) (ss left : List Symbol) (t : TypeTree) → IsOfDialect structs t → depth t ≤ 1 + room → S.Vector ∷ ss ≡ written t left → IsVector room ss left
  vector_back room ss left (RefusedType of) fine fits e = absurd fine
  vector_back room ss left (VectorType k n t) fine fits e = record { kind = k; count = n; element = t; is = cc; fine = fine.1; fits = omega arith; fit = fine.0 }
  vector_back room ss left t fine fits e = cc

  pub vector_opens : (room : ℕ) (ss : List Symbol) → ((us : List Symbol) → ss ≡ S.OpenBracket ∷ us → ⊥) → IsNoType structs (1 + room) (S.Vector ∷ ss)
  vector_opens room ss h t left k = let x = vector_back room ss left t k.fine k.fits k.is in h _ x.is

  vector_counted : (room : ℕ) (ss mid left : List Symbol) (k : VectorTypeKind) → IsOnly k ss mid → (x : IsVector room ss left) → IsCounted structs room mid x.count x.element left
  vector_counted room ss mid left k only x = record { is = (only x.kind x.count _ x.is).1; fine = x.fine; fits = x.fits }

  pub vector_counts : (room : ℕ) (ss mid : List Symbol) (k : VectorTypeKind) → IsOnly k ss mid → IsNotCounted structs room mid → IsNoType structs (1 + room) (S.Vector ∷ ss)
  vector_counts room ss mid k only h t left a =
      let x = vector_back room ss left t a.fine a.fits a.is in
      h x.count x.element left (vector_counted room ss mid left k only x)

  pub vector_fits : (room : ℕ) (ss mid left : List Symbol) (k : VectorTypeKind) (n : ℕ) (t : TypeTree) → IsOnly k ss mid → IsCounted structs room mid n t left → is_vector_of n (shape t) ≡ false → IsNoType structs (1 + room) (S.Vector ∷ ss)
  vector_fits room ss mid left k n t only b h u end a =
      let x = vector_back room ss end u a.fine a.fits a.is in
      let o = one_counted room room n x.count mid left end t x.element b (vector_counted room ss mid end k only x) in
      not_both (is_vector_of n (shape t)) (rw (o.0, o.1) x.fit) h

  -- ---- structs

  pub struct_less : (room : ℕ) (ss : List Symbol) → ((us : List Symbol) → ss ≡ S.Less ∷ us → ⊥) → IsNoType structs (1 + room) (S.Struct ∷ ss)
  struct_less room ss h t left k = by t k.fine k.is
    where
      by : (u : TypeTree) → IsOfDialect structs u → S.Struct ∷ ss ≡ written u left → ⊥
      by (RefusedType of) fine e = absurd fine
      by (StructType l ts) fine e = h (laid l (S.OpenBrace ∷ listed ts (S.CloseBrace ∷ S.Greater ∷ left))) (cc)
      by (NamedType name) fine e = h (S.Name name ∷ S.Greater ∷ left) (cc)
      by u fine e = cc

  -- behind its first sign, a struct without a name
  pub struct_by : (room : ℕ) (ss mid end left : List Symbol) (l : StructLayout) (ts : TypeTrees) (u : TypeTree) → ss ≡ laid l (S.OpenBrace ∷ mid) → AreRead structs room S.CloseBrace mid ts end → end ≡ S.Greater ∷ left → AreFields ts → u ≡ StructType l ts → IsRead structs (1 + room) (S.Struct ∷ S.Less ∷ ss) u left
  struct_by room ss mid end left l ts u a b c fit is =
      let deep = b.fits in
      rw is (record {
        is = ap (λ (x : List Symbol). S.Struct ∷ S.Less ∷ x) (a ∙ ap (λ (x : List Symbol). laid l (S.OpenBrace ∷ x)) (b.is ∙ ap (λ (x : List Symbol). listed ts (S.CloseBrace ∷ x)) c));
        fine = (fit, b.fine);
        fits = omega arith;
      })

  record IsStruct (room : ℕ) (ss left : List Symbol) : Type 0 where
    layout : StructLayout
    fields : TypeTrees
    is : ss ≡ laid layout (S.OpenBrace ∷ listed fields (S.CloseBrace ∷ S.Greater ∷ left))
    fit : AreFields fields
    fine : AreOfDialect structs fields
    fits : depths fields ≤ room

  struct_back : (room : ℕ) (ss left : List Symbol) (t : TypeTree) → IsNoName ss → IsOfDialect structs t → depth t ≤ 1 + room → S.Struct ∷ S.Less ∷ ss ≡ written t left → IsStruct room ss left
  struct_back room ss left (RefusedType of) plain fine fits e = absurd fine
  struct_back room ss left (NamedType name) plain fine fits e = absurd (plain name (S.Greater ∷ left) (cc))
  struct_back room ss left (StructType l ts) plain fine fits e = record { layout = l; fields = ts; is = cc; fit = fine.0; fine = fine.1; fits = omega arith }
  struct_back room ss left t plain fine fits e = cc

  -- behind its head, the fields of a struct that was read
  struct_list : (room : ℕ) (ss mid left : List Symbol) (l : StructLayout) → ss ≡ laid l (S.OpenBrace ∷ mid) → (x : IsStruct room ss left) → AreRead structs room S.CloseBrace mid x.fields (S.Greater ∷ left)
  struct_list room ss mid left l a x =
      let o = one_layout l x.layout mid (listed x.fields (S.CloseBrace ∷ S.Greater ∷ left)) (sym a ∙ x.is) in
      record { is = o.1; fine = x.fine; fits = x.fits }

  pub struct_opens : (room : ℕ) (ss : List Symbol) → IsNoName ss → ((l : StructLayout) (us : List Symbol) → ss ≡ laid l (S.OpenBrace ∷ us) → ⊥) → IsNoType structs (1 + room) (S.Struct ∷ S.Less ∷ ss)
  struct_opens room ss plain h t left k = let x = struct_back room ss left t plain k.fine k.fits k.is in h x.layout _ x.is

  struct_of : (room : ℕ) (ss mid left : List Symbol) (l : StructLayout) (t : TypeTree) → ss ≡ laid l (S.OpenBrace ∷ mid) → IsRead structs (1 + room) (S.Struct ∷ S.Less ∷ ss) t left → IsStruct room ss left
  struct_of room ss mid left l t a k = struct_back room ss left t (laid_no_name l ss mid a) k.fine k.fits k.is

  pub struct_lists : (room : ℕ) (ss mid : List Symbol) (l : StructLayout) → ss ≡ laid l (S.OpenBrace ∷ mid) → AreNoTypes structs room S.CloseBrace mid → IsNoType structs (1 + room) (S.Struct ∷ S.Less ∷ ss)
  struct_lists room ss mid l a h t left k = let x = struct_of room ss mid left l t a k in h x.fields (S.Greater ∷ left) (struct_list room ss mid left l a x)

  pub lists_one : (room more : ℕ) (c : Symbol) (ss us vs : List Symbol) (ts ps : TypeTrees) → closes c ≡ true → AreRead structs room c ss ts us → AreRead structs more c ss ps vs → (ts ≡ ps) × (us ≡ vs)
  lists_one room more c ss us vs ts ps close a b = one_list structs c ts ps us vs close a.fine b.fine (sym a.is ∙ b.is)

  pub struct_ends : (room : ℕ) (ss mid end : List Symbol) (l : StructLayout) (ts : TypeTrees) → ss ≡ laid l (S.OpenBrace ∷ mid) → AreRead structs room S.CloseBrace mid ts end → ((us : List Symbol) → end ≡ S.Greater ∷ us → ⊥) → IsNoType structs (1 + room) (S.Struct ∷ S.Less ∷ ss)
  struct_ends room ss mid end l ts a b h t left k =
      let x = struct_of room ss mid left l t a k in
      h left (lists_one room room S.CloseBrace mid end (S.Greater ∷ left) ts x.fields refl b (struct_list room ss mid left l a x)).1

  pub struct_fits : (room : ℕ) (ss mid end : List Symbol) (l : StructLayout) (ts : TypeTrees) → ss ≡ laid l (S.OpenBrace ∷ mid) → AreRead structs room S.CloseBrace mid ts end → (AreFields ts → ⊥) → IsNoType structs (1 + room) (S.Struct ∷ S.Less ∷ ss)
  struct_fits room ss mid end l ts a b h t left k =
      let x = struct_of room ss mid left l t a k in
      let o = lists_one room room S.CloseBrace mid end (S.Greater ∷ left) ts x.fields refl b (struct_list room ss mid left l a x) in
      h (subst AreFields (sym o.0) x.fit)

  -- ---- structs with names

  pub named_by : (room : ℕ) (ss mid left : List Symbol) (name : List ℕ) (t : TypeTree) → ss ≡ S.Name name ∷ mid → mid ≡ S.Greater ∷ left → IsThere structs name → t ≡ NamedType name → IsRead structs (1 + room) (S.Struct ∷ S.Less ∷ ss) t left
  named_by room ss mid left name t a b there is = rw is (record { is = cc; fine = there; fits = omega arith })

  pub named_none : (room : ℕ) (ss mid : List Symbol) (name : List ℕ) → ss ≡ S.Name name ∷ mid → (IsThere structs name → (us : List Symbol) → mid ≡ S.Greater ∷ us → ⊥) → IsNoType structs (1 + room) (S.Struct ∷ S.Less ∷ ss)
  named_none room ss mid name a h t left k = by t k.fine k.is
    where
      by : (u : TypeTree) → IsOfDialect structs u → S.Struct ∷ S.Less ∷ ss ≡ written u left → ⊥
      by (RefusedType of) fine e = absurd fine
      by (StructType l ts) fine e = laid_no_name l ss (listed ts (S.CloseBrace ∷ S.Greater ∷ left)) (cc) name mid a
      by (NamedType other) fine e =
          let same : other ≡ name = cc in
          h (subst (IsThere structs) same fine) left (cc)
      by u fine e = cc

  -- ---- functions

  pub func_by : (room : ℕ) (ss mid next list end left : List Symbol) (r u : TypeTree) (ps : TypeTrees) (v : Bool) → ss ≡ S.Less ∷ mid → IsRead structs room mid r next → next ≡ S.OpenParen ∷ list → AreRead structs room S.CloseParen list ps end → end ≡ Ends v left → u ≡ FunctionType r ps v
      → IsRead structs (1 + room) (S.Func ∷ ss) u left
  func_by room ss mid next list end left r u ps v a b c d e is =
      let deep = b.fits in
      let deeper = d.fits in
      rw is (record {
        is =
            ap (λ (x : List Symbol). S.Func ∷ x)
            (a ∙ ap (λ (x : List Symbol). S.Less ∷ x) (b.is ∙ ap (written r) (c ∙ ap (λ (x : List Symbol). S.OpenParen ∷ x) (d.is ∙ ap (λ (x : List Symbol). listed ps (S.CloseParen ∷ x)) e))));
        fine = (b.fine, d.fine);
        fits = omega arith;
      })

  record IsFunc (room : ℕ) (ss left : List Symbol) : Type 0 where
    result : TypeTree
    params : TypeTrees
    variadic : Bool
    is : ss ≡ S.Less ∷ written result (S.OpenParen ∷ listed params (S.CloseParen ∷ Ends variadic left))
    fine : IsOfDialect structs result
    fits : depth result ≤ room
    all_fine : AreOfDialect structs params
    all_fit : depths params ≤ room

  func_back : (room : ℕ) (ss left : List Symbol) (t : TypeTree) → IsOfDialect structs t → depth t ≤ 1 + room → S.Func ∷ ss ≡ written t left → IsFunc room ss left
  func_back room ss left (RefusedType of) fine fits e = absurd fine
  func_back room ss left (FunctionType r ps v) fine fits e = record {
    result = r;
    params = ps;
    variadic = v;
    is = cc;
    fine = fine.0;
    fits = omega arith;
    all_fine = fine.1;
    all_fit = omega arith;
  }
  func_back room ss left t fine fits e = cc

  func_result : (room : ℕ) (ss mid left : List Symbol) → ss ≡ S.Less ∷ mid → (x : IsFunc room ss left) → IsRead structs room mid x.result (S.OpenParen ∷ listed x.params (S.CloseParen ∷ Ends x.variadic left))
  func_result room ss mid left a x = let e = x.is in record { is = cc; fine = x.fine; fits = x.fits }

  -- behind its result
  func_next : (room : ℕ) (ss mid next left : List Symbol) (r : TypeTree) → ss ≡ S.Less ∷ mid → IsRead structs room mid r next → (x : IsFunc room ss left) → next ≡ S.OpenParen ∷ listed x.params (S.CloseParen ∷ Ends x.variadic left)
  func_next room ss mid next left r a b x =
      let k = func_result room ss mid left a x in
      (one structs r x.result next (S.OpenParen ∷ listed x.params (S.CloseParen ∷ Ends x.variadic left)) b.fine k.fine (sym b.is ∙ k.is)).1

  func_list : (room : ℕ) (ss mid next list left : List Symbol) (r : TypeTree) → ss ≡ S.Less ∷ mid → IsRead structs room mid r next → next ≡ S.OpenParen ∷ list → (x : IsFunc room ss left) → AreRead structs room S.CloseParen list x.params (Ends x.variadic left)
  func_list room ss mid next list left r a b c x =
      let e = func_next room ss mid next left r a b x in
      record { is = cc; fine = x.all_fine; fits = x.all_fit }

  pub func_opens : (room : ℕ) (ss : List Symbol) → ((us : List Symbol) → ss ≡ S.Less ∷ us → ⊥) → IsNoType structs (1 + room) (S.Func ∷ ss)
  func_opens room ss h t left k = let x = func_back room ss left t k.fine k.fits k.is in h _ x.is

  pub func_returns : (room : ℕ) (ss mid : List Symbol) → ss ≡ S.Less ∷ mid → IsNoType structs room mid → IsNoType structs (1 + room) (S.Func ∷ ss)
  func_returns room ss mid a h t left k = let x = func_back room ss left t k.fine k.fits k.is in h x.result _ (func_result room ss mid left a x)

  pub func_nexts : (room : ℕ) (ss mid next : List Symbol) (r : TypeTree) → ss ≡ S.Less ∷ mid → IsRead structs room mid r next → ((us : List Symbol) → next ≡ S.OpenParen ∷ us → ⊥) → IsNoType structs (1 + room) (S.Func ∷ ss)
  func_nexts room ss mid next r a b h t left k = let x = func_back room ss left t k.fine k.fits k.is in h _ (func_next room ss mid next left r a b x)

  pub func_lists : (room : ℕ) (ss mid next list : List Symbol) (r : TypeTree) → ss ≡ S.Less ∷ mid → IsRead structs room mid r next → next ≡ S.OpenParen ∷ list → AreNoTypes structs room S.CloseParen list → IsNoType structs (1 + room) (S.Func ∷ ss)
  func_lists room ss mid next list r a b c h t left k =
      let x = func_back room ss left t k.fine k.fits k.is in
      h x.params (Ends x.variadic left) (func_list room ss mid next list left r a b c x)

  pub func_ends : (room : ℕ) (ss mid next list end : List Symbol) (r : TypeTree) (ps : TypeTrees) → ss ≡ S.Less ∷ mid → IsRead structs room mid r next → next ≡ S.OpenParen ∷ list → AreRead structs room S.CloseParen list ps end → ((v : Bool) (us : List Symbol) → end ≡ Ends v us → ⊥) → IsNoType structs (1 + room) (S.Func ∷ ss)
  func_ends room ss mid next list end r ps a b c d h t left k =
      let x = func_back room ss left t k.fine k.fits k.is in
      h x.variadic left (lists_one room room S.CloseParen list end (Ends x.variadic left) ps x.params refl d (func_list room ss mid next list left r a b c x)).1
