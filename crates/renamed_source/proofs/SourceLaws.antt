-- What a `Source` tells of its module: kinds of types under their own names, and what the dialect calls a struct.
use Rattle.std.proofs.Common.{◌≡◌, ◌<◌, ◌+◌, ℕ, Bool, true, false, List, [], ◌∷◌, ◌++◌, Option, Some, None, String, map, take, length, slice_get, get_or, position, string_bytes, sym, ap, ◌∙◌, subst, All, arith}
use Rattle.std.specs.Str.{bytes_eq}
use Rattle.std.proofs.lemmas.List.{length-map, map-append}
use Rattle.std.proofs.lemmas.List.Quantifiers.{position-Some}
use Rattle.std.proofs.lemmas.List.Sums.{fails_before_first}
use Rattle.std.proofs.lemmas.Option.{slice_get-get_or, slice_get_within, get_or_from_slice_get, same_Some}
use Rattle.std.proofs.lemmas.Slice.Eq.{bytes_eq-Decides}
use Rattle.support.specs.Interned.{IsDistinctList}
use Rattle.support.proofs.ListLaws.{slice_get-take, take_next}
use Rattle.kinds.specs.declared.fitting.Shape.{Shape}
use Rattle.kinds.specs.Fitting as F
use Rattle.llvm_core.specs.declared.numbers.LLVMType.{LLVMType}
use Rattle.llvm_core.specs.declared.types.LLVMTypeKind.{LLVMTypeKind}
use Rattle.llvm_core.specs.declared.types.LLVMTypeKind.TheVariants as T
use Rattle.llvm_core.specs.Names.{IsInserted}
use Rattle.llvm_core.specs.Parts.{HasFitParts}
use Rattle.llvm_core.proofs.NameLemmas.{position_past}
use Rattle.dialect_types.specs.Names.{IsIdentifier}
use Rattle.renamed_source.specs.Names.{AreStructNames, IsSeenKind, renamed_kind, struct_name}
use Rattle.renamed_source.specs.Source.{pairs_of, listed, place_in, IsPlaced}
use Rattle.renamed_source.proofs.KindLaws.{mapped_at, mapped_from, renamed_shapes}
use Rattle.renamed_source.proofs.NameLaws.{struct_name_listed, struct_name_legal}

-- ---- kinds

module _ (to : List ℕ → List ℕ) where
  seen_as : (o : Option LLVMTypeKind) (k : LLVMTypeKind) → o ≡ Some (renamed_kind to k) → IsSeenKind o k
  seen_as o (T.Named name) h = (to name, h)
  seen_as o T.Void h = h
  seen_as o (T.Int width) h = h
  seen_as o (T.Ptr space) h = h
  seen_as o (T.Floating of) h = h
  seen_as o (T.Other of) h = h
  seen_as o (T.Array count t) h = h
  seen_as o (T.Vector kind count t) h = h
  seen_as o (T.Literal fields layout) h = h
  seen_as o (T.Function result params variadic) h = h

  -- the kind of a type of the module itself is that which is seen
  pub seen_kind : (types : List LLVMTypeKind) (i : ℕ) (k : LLVMTypeKind) → slice_get types i ≡ Some k → IsSeenKind (slice_get (map (renamed_kind to) types) i) k
  seen_kind types i k at = seen_as (slice_get (map (renamed_kind to) types) i) k (mapped_at (renamed_kind to) types i k at)

  pub seen_fits : (types : List LLVMTypeKind) (k : LLVMTypeKind) → HasFitParts types k → HasFitParts (map (renamed_kind to) types) k
  seen_fits types (T.Array count t) h = subst (λ (s : LLVMType → Shape). F.is_array_of count (s t) ≡ true) (sym (renamed_shapes to types)) h
  seen_fits types (T.Vector kind count t) h = subst (λ (s : LLVMType → Shape). F.is_vector_of count (s t) ≡ true) (sym (renamed_shapes to types)) h
  seen_fits types (T.Literal fields layout) h = subst (λ (s : LLVMType → Shape). All (λ (t : LLVMType). F.is_field (s t) ≡ true) fields) (sym (renamed_shapes to types)) h
  seen_fits types T.Void h = h
  seen_fits types (T.Int width) h = h
  seen_fits types (T.Ptr space) h = h
  seen_fits types (T.Floating of) h = h
  seen_fits types (T.Other of) h = h
  seen_fits types (T.Named name) h = h
  seen_fits types (T.Function result params variadic) h = h

-- ---- lists that are made item by item

-- names of which none stands twice are each new
pub inserted_next : (names : List (List ℕ)) (i : ℕ) (n : List ℕ) (old new : List (List ℕ)) (fresh : Bool) → IsDistinctList names → slice_get names i ≡ Some n → old ≡ take i names → IsInserted old new n fresh → new ≡ take (i + 1) names
inserted_next names i n old new true once at are h = h.0 ∙ ap (λ (xs : List (List ℕ)). xs ++ n ∷ []) are ∙ sym (take_next names i n at)
inserted_next names i n old new false once at are h =
    let before = slice_get-take i names h.0 n (subst (λ (xs : List (List ℕ)). slice_get xs h.0 ≡ Some n) are h.1) in
    let same : h.0 ≡ i = once h.0 i n before.1 at in
    absurd (omega (arith, before.0, same))

pub placed_next : {X Y : Type 0} (f : X → Y) (xs : List X) (i : ℕ) (x : X) (made new : List Y) → slice_get xs i ≡ Some x → made ≡ map f (take i xs) → new ≡ made ++ f x ∷ [] → new ≡ map f (take (i + 1) xs)
placed_next f xs i x made new at are pushed = pushed ∙ ap (λ (ys : List _). ys ++ f x ∷ []) are ∙ sym (ap (map f) (take_next xs i x at) ∙ map-append f (take i xs) (x ∷ []))

-- ---- names

-- a name that is not found stands nowhere
pub unfound : (names : List (List ℕ)) (n : List ℕ) → position (bytes_eq n) names ≡ None → ¬ ((i : ℕ) × (slice_get names i ≡ Some n))
unfound names n e h =
    let past = position_past (bytes_eq n) names e in
    let within = slice_get_within names h.0 n h.1 in
    let fails = fails_before_first (bytes_eq n) names h.0 n (omega (arith, past, within)) in
    let passes = (bytes_eq-Decides n (get_or names h.0 n)).1 (sym (get_or_from_slice_get names h.0 n n h.1)) in
    let no : false ≡ true = sym fails ∙ passes in
    cc

-- the name that a list of pairs has at a place
pub name_at : {Z : Type 0} (ps : List (String Z × List ℕ)) (i : ℕ) (p : String Z × List ℕ) → slice_get ps i ≡ Some p → slice_get (listed (pairs_of ps)) i ≡ Some (string_bytes p.0)
name_at {Z} ps i p at =
    mapped_at (λ (q : List ℕ × List ℕ). q.0) (pairs_of ps) i (string_bytes p.0, p.1) (mapped_at (λ (q : String Z × List ℕ). let r : List ℕ × List ℕ = (string_bytes q.0, q.1) in r) ps i p at)

-- a type whose place is known has the name that stands there
record HasName (types : List LLVMTypeKind) (names : List (List ℕ)) (t place : ℕ) : Type 0 where
  name : List ℕ
  kind : slice_get types t ≡ Some (T.Named name)
  here : slice_get names place ≡ Some name

named_there : (types : List LLVMTypeKind) (names : List (List ℕ)) (t i : ℕ) (k : LLVMTypeKind) → slice_get types t ≡ Some k → place_in names k ≡ Some i → HasName types names t i
named_there types names t i (T.Named n) at is =
    let found = position-Some (bytes_eq n) names i [] is in
    record { name = n; kind = at; here = slice_get-get_or names i [] found.0 ∙ ap Some (sym ((bytes_eq-Decides n (get_or names i [])).0 found.1)) }
named_there types names t i T.Void at is = cc
named_there types names t i (T.Int width) at is = cc
named_there types names t i (T.Ptr space) at is = cc
named_there types names t i (T.Floating of) at is = cc
named_there types names t i (T.Other of) at is = cc
named_there types names t i (T.Array count u) at is = cc
named_there types names t i (T.Vector kind count u) at is = cc
named_there types names t i (T.Literal fields layout) at is = cc
named_there types names t i (T.Function result params variadic) at is = cc

module _ (types : List LLVMTypeKind) (pairs : List (List ℕ × List ℕ)) (places : List (Option ℕ)) (h : IsPlaced types pairs places) where
  has_name : (t i : ℕ) → slice_get places t ≡ Some (Some i) → HasName types (listed pairs) t i
  has_name t i at =
      let k = mapped_from (place_in (listed pairs)) types t (Some i) (ap (λ (os : List (Option ℕ)). slice_get os t) (sym h.stand) ∙ at) in
      named_there types (listed pairs) t i k.0 k.1 k.2

  pub place_count : length places ≡ length types
  place_count = ap length h.stand ∙ length-map types (place_in (listed pairs))

  -- a place is one of the list
  pub place_within : (t i : ℕ) → slice_get places t ≡ Some (Some i) → i < length pairs
  place_within t i at = let n = has_name t i at in omega (arith, slice_get_within (listed pairs) i n.name n.here, length-map pairs (λ (p : List ℕ × List ℕ). p.0))

  -- and the dialect calls the struct as the list says there
  pub called_there : (t i : ℕ) (p : List ℕ × List ℕ) → slice_get places t ≡ Some (Some i) → slice_get pairs i ≡ Some p → slice_get (map (renamed_kind (struct_name pairs)) types) t ≡ Some (T.Named p.1)
  called_there t i p at here =
      let n = has_name t i at in
      let same : p.0 ≡ n.name = same_Some p.0 n.name (sym (mapped_at (λ (q : List ℕ × List ℕ). q.0) pairs i p here) ∙ n.here) in
      mapped_at (renamed_kind (struct_name pairs)) types t (T.Named n.name) n.kind
      ∙ ap (λ (m : List ℕ). Some (T.Named m)) (ap (struct_name pairs) (sym same) ∙ struct_name_listed pairs h.names i p here)

-- a type that names a struct which is not listed names it by no identifier
unlisted : (pairs : List (List ℕ × List ℕ)) → AreStructNames pairs → (k : LLVMTypeKind) (n : List ℕ) → place_in (listed pairs) k ≡ None → renamed_kind (struct_name pairs) k ≡ T.Named n → ¬ IsIdentifier n
unlisted pairs names (T.Named m) n none is legal =
    let called : struct_name pairs m ≡ n = named_same (struct_name pairs m) n is in
    let there = struct_name_legal pairs names m (subst IsIdentifier (sym called) legal) in
    unfound (listed pairs) m none (there.0, mapped_at (λ (q : List ℕ × List ℕ). q.0) pairs there.0 (m, struct_name pairs m) there.1)
  where
    named_same : (a b : List ℕ) → T.Named a ≡ T.Named b → a ≡ b
    named_same a b e = cc
unlisted pairs names T.Void n none is legal = cc
unlisted pairs names (T.Int width) n none is legal = cc
unlisted pairs names (T.Ptr space) n none is legal = cc
unlisted pairs names (T.Floating of) n none is legal = cc
unlisted pairs names (T.Other of) n none is legal = cc
unlisted pairs names (T.Array count u) n none is legal = cc
unlisted pairs names (T.Vector kind count u) n none is legal = cc
unlisted pairs names (T.Literal fields layout) n none is legal = cc
unlisted pairs names (T.Function result params variadic) n none is legal = cc

-- ---- what a `Source` keeps

module _ {Z : Type 0} (types : List LLVMTypeKind) (ps : List (String Z × List ℕ)) (places : List (Option ℕ)) (h : IsPlaced types (pairs_of ps) places) where
  -- the place that is kept of a type that is there
  pub place_read : (t i : ℕ) (o : Option ℕ) → t < length (map (renamed_kind (struct_name (pairs_of ps))) types) → o ≡ get_or places t o → o ≡ Some i → slice_get places t ≡ Some (Some i)
  place_read t i o lt read is =
      let counted = length-map types (renamed_kind (struct_name (pairs_of ps))) in
      let there : t < length places = omega (arith, lt, counted, place_count types (pairs_of ps) places h) in
      slice_get-get_or places t o there ∙ ap Some (sym read ∙ is)

  -- where no place is kept of a type, it names no struct that is listed
  pub seen_unnamed : (t : ℕ) (o : Option ℕ) → t < length (map (renamed_kind (struct_name (pairs_of ps))) types) → o ≡ get_or places t o → o ≡ None → (n : List ℕ) → slice_get (map (renamed_kind (struct_name (pairs_of ps))) types) t ≡ Some (T.Named n)
      → ¬ IsIdentifier n
  seen_unnamed t o lt read none n seen =
      let counted = length-map types (renamed_kind (struct_name (pairs_of ps))) in
      let there : t < length places = omega (arith, lt, counted, place_count types (pairs_of ps) places h) in
      let kept = slice_get-get_or places t o there ∙ ap Some (sym read ∙ none) in
      let k = mapped_from (place_in (listed (pairs_of ps))) types t None (ap (λ (os : List (Option ℕ)). slice_get os t) (sym h.stand) ∙ kept) in
      let is = same_Some (renamed_kind (struct_name (pairs_of ps)) k.0) (T.Named n) (sym (mapped_at (renamed_kind (struct_name (pairs_of ps))) types t k.0 k.1) ∙ seen) in
      unlisted (pairs_of ps) h.names k.0 n k.2 is

  pub place_bound : (t i : ℕ) → slice_get places t ≡ Some (Some i) → i < length ps
  place_bound t i at =
      let within = place_within types (pairs_of ps) places h t i at in
      let counted = length-map ps (λ (p : String Z × List ℕ). let r : List ℕ × List ℕ = (string_bytes p.0, p.1) in r) in
      omega (arith, within, counted)

  pub seen_named : (t i : ℕ) (d : String Z × List ℕ) → slice_get places t ≡ Some (Some i) → slice_get (map (renamed_kind (struct_name (pairs_of ps))) types) t ≡ Some (T.Named (get_or ps i d).1)
  seen_named t i d at =
      let p = get_or ps i d in
      called_there types (pairs_of ps) places h t i (string_bytes p.0, p.1) at
      (mapped_at (λ (q : String Z × List ℕ). let r : List ℕ × List ℕ = (string_bytes q.0, q.1) in r) ps i p (slice_get-get_or ps i d (place_bound t i at)))
