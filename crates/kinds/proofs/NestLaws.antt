-- How deep types nest through the fields of structs.
use Rattle.std.proofs.Common.{arith, ◌≡◌, ◌≤◌, ◌+◌, ◌-◌, ℕ, zero, suc, Bool, true, false, refl, ap, subst, sym, List, [], ◌∷◌, ◌++◌, All, Option, Some, None, if◌then◌else◌}
use Rattle.std.specs.Option.{option_map_or}
use Rattle.std.specs.Str.{bytes_eq}
use Rattle.std.proofs.lemmas.Slice.Eq.{bytes_eq-Decides}
use Rattle.std.proofs.lemmas.List.Elements.{All-nil, All-cons}
use Rattle.kinds.specs.Types.{TypeTree, VoidType, IntType, PointerType, FloatingType, RefusedType, ArrayType, VectorType, StructType, NamedType, FunctionType, TypeTrees, NoTypes, ThenType, types_list, parts_of, depth, depths}
use Rattle.kinds.specs.Held.{deepest, too_deep, IsShallow}
use Rattle.kinds.specs.Structs.{StructBody, Struct, struct_in, each_type, each_field, nests, IsNested}
use Rattle.kinds.proofs.TypeLaws.{and_left, and_right}

-- a test that passes where another does passes on each where that one does
pub each_weaker : (p q : TypeTree → Bool) → ((t : TypeTree) → p t ≡ true → q t ≡ true) → (ts : TypeTrees) → each_type p ts ≡ true → each_type q ts ≡ true
each_weaker p q f NoTypes h = refl
each_weaker p q f (ThenType t ts) h =
    let a = f t (and_left (p t) (each_type p ts) h) in
    let b = each_weaker p q f ts (and_right (p t) (each_type p ts) h) in
    cc

pub field_weaker : (p q : TypeTree → Bool) → ((t : TypeTree) → p t ≡ true → q t ≡ true) → (s : Struct) → each_field p s ≡ true → each_field q s ≡ true
field_weaker p q f s h = by s.body h
  where
    by : (b : Option StructBody) → option_map_or (λ (b : StructBody). each_type p b.fields) b true ≡ true → option_map_or (λ (b : StructBody). each_type q b.fields) b true ≡ true
    by None h = refl
    by (Some b) h = each_weaker p q f b.fields h

there_weaker : (p q : TypeTree → Bool) → ((t : TypeTree) → p t ≡ true → q t ≡ true) → (s : Option Struct) → option_map_or (each_field p) s false ≡ true → option_map_or (each_field q) s false ≡ true
there_weaker p q f None h = cc
there_weaker p q f (Some s) h = field_weaker p q f s h

-- what passes on each of a list passes on its items
pub each_listed : (p : TypeTree → Bool) (ts : TypeTrees) → each_type p ts ≡ true → All (λ (t : TypeTree). p t ≡ true) (types_list ts)
each_listed p NoTypes h = All-nil (λ (t : TypeTree). p t ≡ true)
each_listed p (ThenType t ts) h = All-cons (λ (t : TypeTree). p t ≡ true) t (types_list ts) (and_left (p t) (each_type p ts) h) (each_listed p ts (and_right (p t) (each_type p ts) h))

module _ (structs : List Struct) where
  -- a depth that is enough for a type is enough with one more
  pub nests_more : (n : ℕ) (t : TypeTree) → nests structs n t ≡ true → nests structs (suc n) t ≡ true
  nests_more zero t h = cc
  nests_more (suc n) (ArrayType c t) h = nests_more n t h
  nests_more (suc n) (VectorType k c t) h = nests_more n t h
  nests_more (suc n) (StructType l ts) h = each_weaker (nests structs n) (nests structs (suc n)) (nests_more n) ts h
  nests_more (suc n) (NamedType name) h = there_weaker (nests structs n) (nests structs (suc n)) (nests_more n) (struct_in structs name) h
  nests_more (suc n) (FunctionType r ps v) h =
      let a = nests_more n r (and_left (nests structs n r) (each_type (nests structs n) ps) h) in
      let b = each_weaker (nests structs n) (nests structs (suc n)) (nests_more n) ps (and_right (nests structs n r) (each_type (nests structs n) ps) h) in
      cc
  nests_more (suc n) VoidType h = refl
  nests_more (suc n) (IntType w) h = refl
  nests_more (suc n) (PointerType s) h = refl
  nests_more (suc n) (FloatingType a) h = refl
  nests_more (suc n) (RefusedType a) h = refl

  -- and with any more
  pub nests_further : (n k : ℕ) (t : TypeTree) → nests structs n t ≡ true → nests structs (k + n) t ≡ true
  nests_further n zero t h = let e : n ≡ 0 + n = omega arith in subst (λ (x : ℕ). nests structs x t ≡ true) e h
  nests_further n (suc k) t h = let e : suc (k + n) ≡ suc k + n = omega arith in subst (λ (x : ℕ). nests structs x t ≡ true) e (nests_more (k + n) t (nests_further n k t h))

  pub nests_from : (n k : ℕ) (t : TypeTree) → n ≤ k → nests structs n t ≡ true → nests structs k t ≡ true
  nests_from n k t le h = let e : (k - n) + n ≡ k = omega arith in subst (λ (x : ℕ). nests structs x t ≡ true) e (nests_further n (k - n) t h)

  pub each_nests_from : (n k : ℕ) (ts : TypeTrees) → n ≤ k → each_type (nests structs n) ts ≡ true → each_type (nests structs k) ts ≡ true
  each_nests_from n k ts le h = each_weaker (nests structs n) (nests structs k) (λ t here. nests_from n k t le here) ts h

  mutual
    -- so deep the type itself nests at most
    pub nests_depth : (n : ℕ) (t : TypeTree) → nests structs n t ≡ true → depth t ≤ n
    nests_depth zero t h = cc
    nests_depth (suc n) (ArrayType c t) h = let k = nests_depth n t h in omega arith
    nests_depth (suc n) (VectorType k c t) h = let j = nests_depth n t h in omega arith
    nests_depth (suc n) (StructType l ts) h = let k = each_depth n ts h in omega arith
    nests_depth (suc n) (NamedType name) h = omega arith
    nests_depth (suc n) (FunctionType r ps v) h =
        let a = nests_depth n r (and_left (nests structs n r) (each_type (nests structs n) ps) h) in
        let b = each_depth n ps (and_right (nests structs n r) (each_type (nests structs n) ps) h) in
        omega arith
    nests_depth (suc n) VoidType h = omega arith
    nests_depth (suc n) (IntType w) h = omega arith
    nests_depth (suc n) (PointerType s) h = omega arith
    nests_depth (suc n) (FloatingType a) h = omega arith
    nests_depth (suc n) (RefusedType a) h = omega arith

    each_depth : (n : ℕ) (ts : TypeTrees) → each_type (nests structs n) ts ≡ true → depths ts ≤ n
    each_depth n NoTypes h = omega arith
    each_depth n (ThenType t ts) h =
        let a = nests_depth n t (and_left (nests structs n t) (each_type (nests structs n) ts) h) in
        let b = each_depth n ts (and_right (nests structs n t) (each_type (nests structs n) ts) h) in
        omega arith

  -- a type that nests no deeper than is allowed is shallow
  pub nested_shallow : (t : TypeTree) → IsNested structs t → IsShallow t
  unfolding too_deep
  nested_shallow t h = let k = nests_depth deepest t h in grind arith

  -- ---- parts

  -- the parts of a type nest where it does: a line for each kind with parts
  pub parts_nest : (n : ℕ) (t : TypeTree) → nests structs n t ≡ true → All (λ (u : TypeTree). nests structs n u ≡ true) (parts_of t)
  parts_nest zero t h = cc
  parts_nest (suc n) (ArrayType c t) h = All-cons (λ (u : TypeTree). nests structs (suc n) u ≡ true) t [] (nests_more n t h) (All-nil (λ (u : TypeTree). nests structs (suc n) u ≡ true))
  parts_nest (suc n) (VectorType k c t) h = All-cons (λ (u : TypeTree). nests structs (suc n) u ≡ true) t [] (nests_more n t h) (All-nil (λ (u : TypeTree). nests structs (suc n) u ≡ true))
  parts_nest (suc n) (StructType l ts) h = each_listed (nests structs (suc n)) ts (each_weaker (nests structs n) (nests structs (suc n)) (nests_more n) ts h)
  parts_nest (suc n) (FunctionType r ps v) h =
      let a = nests_more n r (and_left (nests structs n r) (each_type (nests structs n) ps) h) in
      let b = each_weaker (nests structs n) (nests structs (suc n)) (nests_more n) ps (and_right (nests structs n r) (each_type (nests structs n) ps) h) in
      All-cons (λ (u : TypeTree). nests structs (suc n) u ≡ true) r (types_list ps) a (each_listed (nests structs (suc n)) ps b)
  parts_nest (suc n) t h = All-nil (λ (u : TypeTree). nests structs (suc n) u ≡ true)

  pub parts_nested : (t : TypeTree) → IsNested structs t → All (IsNested structs) (parts_of t)
  parts_nested t h = parts_nest deepest t h

  -- ---- types without parts

  pub void_nested : IsNested structs VoidType
  unfolding deepest
  void_nested = refl

  pub int_nested : (w : ℕ) → IsNested structs (IntType w)
  unfolding deepest
  int_nested w = refl

-- ---- more structs

found_longer : (ss more : List Struct) (name : List ℕ) (s : Struct) → struct_in ss name ≡ Some s → struct_in (ss ++ more) name ≡ Some s
found_longer [] more name s e = cc
found_longer (x ∷ ss) more name s e = by (bytes_eq x.name name) e (found_longer ss more name s)
  where
    by : (b : Bool) → (if b then Some x else struct_in ss name) ≡ Some s → (struct_in ss name ≡ Some s → struct_in (ss ++ more) name ≡ Some s) → (if b then Some x else struct_in (ss ++ more) name) ≡ Some s
    by true e next = e
    by false e next = next e

there_longer : (ss more : List Struct) (name : List ℕ) (p q : TypeTree → Bool) → ((t : TypeTree) → p t ≡ true → q t ≡ true) → (o : Option Struct) → struct_in ss name ≡ o → option_map_or (each_field p) o false ≡ true
    → option_map_or (each_field q) (struct_in (ss ++ more) name) false ≡ true
there_longer ss more name p q f None is h = cc
there_longer ss more name p q f (Some s) is h = subst (λ (o : Option Struct). option_map_or (each_field q) o false ≡ true) (sym (found_longer ss more name s is)) (field_weaker p q f s h)

-- what nests does so where there are more structs behind
pub nests_longer : (ss more : List Struct) (n : ℕ) (t : TypeTree) → nests ss n t ≡ true → nests (ss ++ more) n t ≡ true
nests_longer ss more zero t h = cc
nests_longer ss more (suc n) (ArrayType c t) h = nests_longer ss more n t h
nests_longer ss more (suc n) (VectorType k c t) h = nests_longer ss more n t h
nests_longer ss more (suc n) (StructType l ts) h = each_weaker (nests ss n) (nests (ss ++ more) n) (nests_longer ss more n) ts h
nests_longer ss more (suc n) (NamedType name) h = there_longer ss more name (nests ss n) (nests (ss ++ more) n) (nests_longer ss more n) (struct_in ss name) refl h
nests_longer ss more (suc n) (FunctionType r ps v) h =
    let a = nests_longer ss more n r (and_left (nests ss n r) (each_type (nests ss n) ps) h) in
    let b = each_weaker (nests ss n) (nests (ss ++ more) n) (nests_longer ss more n) ps (and_right (nests ss n r) (each_type (nests ss n) ps) h) in
    cc
nests_longer ss more (suc n) VoidType h = refl
nests_longer ss more (suc n) (IntType w) h = refl
nests_longer ss more (suc n) (PointerType s) h = refl
nests_longer ss more (suc n) (FloatingType a) h = refl
nests_longer ss more (suc n) (RefusedType a) h = refl

-- a struct that stands last is found by its name, where no other has it
pub found_last : (ss : List Struct) (s : Struct) → struct_in ss s.name ≡ None → struct_in (ss ++ s ∷ []) s.name ≡ Some s
found_last [] s none = ap (λ (b : Bool). if b then Some s else None) ((bytes_eq-Decides s.name s.name).1 refl)
found_last (x ∷ ss) s none = by (bytes_eq x.name s.name) none (found_last ss s)
  where
    by : (b : Bool) → (if b then Some x else struct_in ss s.name) ≡ None → (struct_in ss s.name ≡ None → struct_in (ss ++ s ∷ []) s.name ≡ Some s) → (if b then Some x else struct_in (ss ++ s ∷ []) s.name) ≡ Some s
    by true none next = cc
    by false none next = next none
