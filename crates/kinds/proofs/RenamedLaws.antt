-- Types under other names of structs: what stays of them, and how deep they nest.
use Rattle.std.proofs.Common.{◌≡◌, ◌+◌, ℕ, zero, suc, Bool, true, false, refl, ap, sym, subst, ◌∙◌, map, List, ◌∷◌, Option, Some, None, slice_get, inl, inr, if◌then◌else◌}
use Rattle.std.specs.Option.{option_map, option_map_or}
use Rattle.kinds.specs.declared.types.OtherType.{OtherType}
use Rattle.kinds.specs.declared.types.Lanes.{Lanes}
use Rattle.kinds.specs.declared.types.Lanes.TheVariants as N
use Rattle.kinds.specs.declared.fitting.Shape.{Shape}
use Rattle.kinds.specs.declared.fitting.Laned.{Laned}
use Rattle.kinds.specs.Types.{TypeTree, VoidType, IntType, PointerType, FloatingType, RefusedType, ArrayType, VectorType, StructType, NamedType, FunctionType, TypeTrees, NoTypes, ThenType, shape, laned, many, in_lanes, bits_of, types_list, parts_of, result_of, takes_of, params_of, depth, depths, count_types}
use Rattle.kinds.specs.Fitting.{is_first_class, is_held}
use Rattle.kinds.specs.Held.{is_void, own_type, width_in, too_deep, throughout, each_throughout, IsShallow, IsFirstClass, IsReturned, IsHeld, IsHeldResult, refused_of, refused_in}
use Rattle.kinds.specs.Structs.{StructBody, Struct, struct_in, each_type, each_field, nests, renamed, renamed_all, renamed_body, renamed_struct, Holds, Itself, InPart, InField}
use Rattle.kinds.proofs.TypeLaws.{and_left, and_right}
use Rattle.kinds.proofs.PartLaws.{or_some}

-- ---- what a type holds

module _ (structs : List Struct) where
  -- what is held by what a type holds is held by it
  pub holds_through : (u v t : TypeTree) → Holds structs u v → Holds structs v t → Holds structs u t
  holds_through u v _ h Itself = h
  holds_through u v _ h (InPart t w i at inside) = InPart t w i at (holds_through u v w h inside)
  holds_through u v _ h (InField n s b w i is has at inside) = InField n s b w i is has at (holds_through u v w h inside)

  mutual
    -- the first of the types that the dialect lacks, of those that a type is made of, is one that it holds
    pub refused_held : (t : TypeTree) (of : OtherType) → refused_of t ≡ Some of → Holds structs (RefusedType of) t
    refused_held (RefusedType a) of e = let same : RefusedType a ≡ RefusedType of = cc in subst (Holds structs (RefusedType of)) (sym same) Itself
    refused_held (ArrayType n t) of e = InPart (ArrayType n t) t 0 refl (refused_held t of e)
    refused_held (VectorType k n t) of e = InPart (VectorType k n t) t 0 refl (refused_held t of e)
    refused_held (StructType l ts) of e = let x = refused_there ts of e in InPart (StructType l ts) x.1 x.0 x.2 x.3
    refused_held (NamedType n) of e = cc
    refused_held VoidType of e = cc
    refused_held (IntType w) of e = cc
    refused_held (PointerType s) of e = cc
    refused_held (FloatingType a) of e = cc
    refused_held (FunctionType r ps v) of e = cc

    pub refused_there : (ts : TypeTrees) (of : OtherType) → refused_in ts ≡ Some of → (i : ℕ) × (v : TypeTree) × (slice_get (types_list ts) i ≡ Some v) × Holds structs (RefusedType of) v
    refused_there NoTypes of e = cc
    refused_there (ThenType t ts) of e = elim (or_some (refused_of t) (refused_in ts) of e) [
      | inl first ↦ (0, t, refl, refused_held t of first)
      | inr later ↦ (let x = refused_there ts of later in (suc x.0, x.1, x.2, x.3))
    ]

-- ---- what stays of a type

module _ (to : List ℕ → List ℕ) where
  pub renamed_shape : (t : TypeTree) → shape (renamed to t) ≡ shape t
  renamed_shape VoidType = refl
  renamed_shape (IntType w) = refl
  renamed_shape (PointerType s) = refl
  renamed_shape (FloatingType a) = refl
  renamed_shape (RefusedType a) = refl
  renamed_shape (ArrayType n t) = refl
  renamed_shape (VectorType k n t) = refl
  renamed_shape (StructType l ts) = refl
  renamed_shape (NamedType n) = refl
  renamed_shape (FunctionType r ps v) = refl

  pub renamed_laned : (t : TypeTree) → laned (renamed to t) ≡ laned t
  renamed_laned VoidType = refl
  renamed_laned (IntType w) = refl
  renamed_laned (PointerType s) = refl
  renamed_laned (FloatingType a) = refl
  renamed_laned (RefusedType a) = refl
  renamed_laned (ArrayType n t) = refl
  renamed_laned (VectorType k n t) = ap (λ (s : Shape). many k n s) (renamed_shape t)
  renamed_laned (StructType l ts) = refl
  renamed_laned (NamedType n) = refl
  renamed_laned (FunctionType r ps v) = refl

  -- bits name no structs
  pub renamed_lanes : (l : Lanes) → renamed to (in_lanes l (IntType 1)) ≡ in_lanes l (IntType 1)
  renamed_lanes N.One = refl
  renamed_lanes (N.Many k n) = refl

  pub renamed_bits : (t : TypeTree) → bits_of (renamed to t) ≡ renamed to (bits_of t)
  renamed_bits t = ap (λ (l : Laned). in_lanes l.lanes (IntType 1)) (renamed_laned t) ∙ sym (renamed_lanes (laned t).lanes)

  mutual
    pub renamed_throughout : (p : Shape → Bool) (t : TypeTree) → throughout p (renamed to t) ≡ throughout p t
    renamed_throughout p VoidType = refl
    renamed_throughout p (IntType w) = refl
    renamed_throughout p (PointerType s) = refl
    renamed_throughout p (FloatingType a) = refl
    renamed_throughout p (RefusedType a) = refl
    renamed_throughout p (ArrayType n t) = rw (renamed_shape t, renamed_throughout p t) refl
    renamed_throughout p (VectorType k n t) = rw (renamed_shape t, renamed_throughout p t) refl
    renamed_throughout p (StructType l ts) = renamed_each p ts
    renamed_throughout p (NamedType n) = refl
    renamed_throughout p (FunctionType r ps v) = refl

    pub renamed_each : (p : Shape → Bool) (ts : TypeTrees) → each_throughout p (renamed_all to ts) ≡ each_throughout p ts
    renamed_each p NoTypes = refl
    renamed_each p (ThenType t ts) = rw (renamed_shape t, renamed_throughout p t, renamed_each p ts) refl

  mutual
    pub renamed_depth : (t : TypeTree) → depth (renamed to t) ≡ depth t
    renamed_depth VoidType = refl
    renamed_depth (IntType w) = refl
    renamed_depth (PointerType s) = refl
    renamed_depth (FloatingType a) = refl
    renamed_depth (RefusedType a) = refl
    renamed_depth (ArrayType n t) = rw (renamed_depth t) refl
    renamed_depth (VectorType k n t) = rw (renamed_depth t) refl
    renamed_depth (StructType l ts) = rw (renamed_depths ts) refl
    renamed_depth (NamedType n) = refl
    renamed_depth (FunctionType r ps v) = rw (renamed_depth r, renamed_depths ps) refl

    pub renamed_depths : (ts : TypeTrees) → depths (renamed_all to ts) ≡ depths ts
    renamed_depths NoTypes = refl
    renamed_depths (ThenType t ts) = rw (renamed_depth t, renamed_depths ts) refl

  mutual
    -- where each name stays
    pub renamed_self : ((n : List ℕ) → to n ≡ n) → (t : TypeTree) → renamed to t ≡ t
    renamed_self same VoidType = refl
    renamed_self same (IntType w) = refl
    renamed_self same (PointerType s) = refl
    renamed_self same (FloatingType a) = refl
    renamed_self same (RefusedType a) = refl
    renamed_self same (ArrayType n t) = ap (ArrayType n) (renamed_self same t)
    renamed_self same (VectorType k n t) = ap (VectorType k n) (renamed_self same t)
    renamed_self same (StructType l ts) = ap (StructType l) (renamed_selves same ts)
    renamed_self same (NamedType n) = ap NamedType (same n)
    renamed_self same (FunctionType r ps v) = let a = renamed_self same r in let b = renamed_selves same ps in cc

    pub renamed_selves : ((n : List ℕ) → to n ≡ n) → (ts : TypeTrees) → renamed_all to ts ≡ ts
    renamed_selves same NoTypes = refl
    renamed_selves same (ThenType t ts) = let a = renamed_self same t in let b = renamed_selves same ts in cc

  pub renamed_list : (ts : TypeTrees) → types_list (renamed_all to ts) ≡ map (renamed to) (types_list ts)
  renamed_list NoTypes = refl
  renamed_list (ThenType t ts) = ap (λ (us : List TypeTree). renamed to t ∷ us) (renamed_list ts)

  pub renamed_count : (ts : TypeTrees) → count_types (renamed_all to ts) ≡ count_types ts
  renamed_count NoTypes = refl
  renamed_count (ThenType t ts) = ap (λ (n : ℕ). 1 + n) (renamed_count ts)

  pub renamed_result : (t : TypeTree) → result_of (renamed to t) ≡ renamed to (result_of t)
  renamed_result VoidType = refl
  renamed_result (IntType w) = refl
  renamed_result (PointerType s) = refl
  renamed_result (FloatingType a) = refl
  renamed_result (RefusedType a) = refl
  renamed_result (ArrayType n t) = refl
  renamed_result (VectorType k n t) = refl
  renamed_result (StructType l ts) = refl
  renamed_result (NamedType n) = refl
  renamed_result (FunctionType r ps v) = refl

  pub renamed_takes : (t : TypeTree) → takes_of (renamed to t) ≡ renamed_all to (takes_of t)
  renamed_takes VoidType = refl
  renamed_takes (IntType w) = refl
  renamed_takes (PointerType s) = refl
  renamed_takes (FloatingType a) = refl
  renamed_takes (RefusedType a) = refl
  renamed_takes (ArrayType n t) = refl
  renamed_takes (VectorType k n t) = refl
  renamed_takes (StructType l ts) = refl
  renamed_takes (NamedType n) = refl
  renamed_takes (FunctionType r ps v) = refl

  pub renamed_params : (t : TypeTree) → params_of (renamed to t) ≡ map (renamed to) (params_of t)
  renamed_params t = ap types_list (renamed_takes t) ∙ renamed_list (takes_of t)

  pub renamed_width : (t : TypeTree) → width_in (renamed to t) ≡ width_in t
  renamed_width t = rw (renamed_shape t) refl

  pub renamed_void : (t : TypeTree) → is_void (renamed to t) ≡ is_void t
  renamed_void t = rw (renamed_shape t) refl

  pub renamed_own : (t : TypeTree) → own_type (renamed to t) ≡ option_map (renamed to) (own_type t)
  renamed_own t = ap (λ (v : Bool). if v then None else Some (renamed to t)) (renamed_void t) ∙ by (is_void t)
    where
      by : (v : Bool) → (if v then None else Some (renamed to t)) ≡ option_map (renamed to) (if v then None else Some t)
      by true = refl
      by false = refl

  -- ---- where it may stand

  pub renamed_shallow : (t : TypeTree) → IsShallow t → IsShallow (renamed to t)
  renamed_shallow t h = ap too_deep (renamed_depth t) ∙ h

  pub renamed_first_class : (t : TypeTree) → IsFirstClass t → IsFirstClass (renamed to t)
  unfolding IsFirstClass
  renamed_first_class t h = (renamed_throughout is_first_class t ∙ h.0, renamed_shallow t h.1)

  pub renamed_held : (t : TypeTree) → IsHeld t → IsHeld (renamed to t)
  unfolding IsHeld
  renamed_held t h = (renamed_throughout is_held t ∙ h.0, renamed_shallow t h.1)

  pub renamed_returned : (t : TypeTree) → IsReturned t → IsReturned (renamed to t)
  unfolding IsReturned
  renamed_returned t h = (rw (renamed_void t, renamed_throughout is_first_class t) h.0, renamed_shallow t h.1)

  pub renamed_held_result : (t : TypeTree) → IsHeldResult t → IsHeldResult (renamed to t)
  unfolding IsHeldResult
  renamed_held_result t h = (rw (renamed_void t, renamed_throughout is_held t) h.0, renamed_shallow t h.1)

-- ---- depth

-- the struct of that name stands under its other name among others
abbrev pub IsMatched : (to : List ℕ → List ℕ) (source target : List Struct) → List ℕ → Type 0
IsMatched to source target n = (s : Struct) → struct_in source n ≡ Some s → struct_in target (to n) ≡ Some (renamed_struct to s)

each_renamed : (to : List ℕ → List ℕ) (p q : TypeTree → Bool) (ts : TypeTrees) → ((i : ℕ) (v : TypeTree) → slice_get (types_list ts) i ≡ Some v → p v ≡ true → q (renamed to v) ≡ true) → each_type p ts ≡ true → each_type q (renamed_all to ts) ≡ true
each_renamed to p q NoTypes f h = refl
each_renamed to p q (ThenType t ts) f h =
    let a = f 0 t refl (and_left (p t) (each_type p ts) h) in
    let b = each_renamed to p q ts (λ i v at. f (suc i) v at) (and_right (p t) (each_type p ts) h) in
    cc

module _ (to : List ℕ → List ℕ) (source target : List Struct) where
  -- all structs that a type holds are matched
  abbrev pub AreMatchedIn : TypeTree → Type 0
  AreMatchedIn t = (n : List ℕ) → Holds source (NamedType n) t → IsMatched to source target n

  in_part : (t v : TypeTree) (i : ℕ) → slice_get (parts_of t) i ≡ Some v → AreMatchedIn t → AreMatchedIn v
  in_part t v i at all n h = all n (InPart t v i at h)

  there : (n : ℕ) (name : List ℕ) → ((v : TypeTree) → AreMatchedIn v → nests source n v ≡ true → nests target n (renamed to v) ≡ true) → AreMatchedIn (NamedType name)
      → (s : Option Struct) → struct_in source name ≡ s → option_map_or (each_field (nests source n)) s false ≡ true → option_map_or (each_field (nests target n)) (struct_in target (to name)) false ≡ true
  there n name deeper all None is h = cc
  there n name deeper all (Some s) is h =
      subst (λ (o : Option Struct). option_map_or (each_field (nests target n)) o false ≡ true) (sym (all name Itself s is)) (by s.body refl h)
    where
      by : (b : Option StructBody) → s.body ≡ b → option_map_or (λ (b : StructBody). each_type (nests source n) b.fields) b true ≡ true → option_map_or (λ (b : StructBody). each_type (nests target n) b.fields) (option_map (renamed_body to) b) true ≡ true
      by None has h = refl
      by (Some b) has h = each_renamed to (nests source n) (nests target n) b.fields (λ i v at k. deeper v (λ m inside. all m (InField name s b v i is has at inside)) k) h

  -- so many levels are enough for a type under other names, where they are for the type, and the structs that it holds are matched
  pub renamed_nests : (n : ℕ) (t : TypeTree) → AreMatchedIn t → nests source n t ≡ true → nests target n (renamed to t) ≡ true
  renamed_nests zero t all h = cc
  renamed_nests (suc n) (ArrayType c t) all h = renamed_nests n t (in_part (ArrayType c t) t 0 refl all) h
  renamed_nests (suc n) (VectorType k c t) all h = renamed_nests n t (in_part (VectorType k c t) t 0 refl all) h
  renamed_nests (suc n) (StructType l ts) all h = each_renamed to (nests source n) (nests target n) ts (λ i v at k. renamed_nests n v (in_part (StructType l ts) v i at all) k) h
  renamed_nests (suc n) (NamedType name) all h = there n name (λ v m k. renamed_nests n v m k) all (struct_in source name) refl h
  renamed_nests (suc n) (FunctionType r ps v) all h =
      let a = renamed_nests n r (in_part (FunctionType r ps v) r 0 refl all) (and_left (nests source n r) (each_type (nests source n) ps) h) in
      let b = each_renamed to (nests source n) (nests target n) ps (λ i u at k. renamed_nests n u (in_part (FunctionType r ps v) u (suc i) at all) k) (and_right (nests source n r) (each_type (nests source n) ps) h) in
      cc
  renamed_nests (suc n) VoidType all h = refl
  renamed_nests (suc n) (IntType w) all h = refl
  renamed_nests (suc n) (PointerType s) all h = refl
  renamed_nests (suc n) (FloatingType a) all h = refl
  renamed_nests (suc n) (RefusedType a) all h = refl
