-- The pieces of a constant are elements of its type, and so they are with another at one place.
use Rattle.std.proofs.Common.{◌≡◌, ◌⊎◌, inl, inr, ◌<◌, ◌^◌, ◌+◌, ℕ, zero, suc, Bool, true, false, if◌then◌else◌, List, [], ◌∷◌, Option, Some, None, length, map, take, get_or, ◌++◌, slice_get, slice_set, replicate, ap, sym, ◌∙◌, refl, subst, arith, All}
use Rattle.std.specs.Prelude.{IfSome}
use Rattle.std.specs.List.{find}
use Rattle.std.specs.Str.{bytes_eq}
use Rattle.std.specs.Option.{option_map, option_and_then}
use Rattle.std.proofs.lemmas.List.{length-map, length-replicate, map-append, take_more}
use Rattle.std.proofs.lemmas.List.Elements.{All-replicate}
use Rattle.std.proofs.lemmas.Option.{same_Some, slice_get_within}
use Rattle.support.proofs.ListLaws.{item_there, slice_get-set_cases, length-slice_set}
use Rattle.support.proofs.OptionLaws.{part_of}
use Rattle.kinds.specs.declared.fill.Fill.{Fill}
use Rattle.kinds.specs.declared.types.VectorTypeKind.{VectorTypeKind}
use Rattle.kinds.specs.declared.types.VectorTypeKind.TheVariants as N
use Rattle.llvm_core.specs.declared.numbers.LLVMType.{LLVMType}
use Rattle.llvm_core.specs.declared.numbers.LLVMConst.{LLVMConst}
use Rattle.llvm_core.specs.declared.types.LLVMTypeKind.{LLVMTypeKind}
use Rattle.llvm_core.specs.declared.types.LLVMTypeKind.TheVariants as T
use Rattle.llvm_core.specs.declared.consts.LLVMConstKind.{LLVMConstKind}
use Rattle.llvm_core.specs.declared.consts.LLVMConstKind.TheVariants as C
use Rattle.llvm_core.specs.declared.pieces.Piece.{Piece}
use Rattle.llvm_core.specs.declared.pieces.Piece.TheVariants as P
use Rattle.llvm_core.specs.declared.structs.StructFields.{StructFields}
use Rattle.llvm_core.specs.declared.structs.StructData.{StructData}
use Rattle.llvm_core.specs.Module.{Module}
use Rattle.llvm_core.specs.Parts.{IsTypeOver, const_type}
use Rattle.llvm_core.specs.Consts.{IsConstIn, IsElement, AreElements, HasFields, struct_named}
use Rattle.llvm_core.specs.Sound.{IsModule, IsStructIn, AreFieldsIn}
use Rattle.llvm_core.specs.Pieces.{IsPieceOf, ArePiecesOf, FitsKind, FitsPlace, named_fields, fill_pieces, byte_pieces, pieces}
use Rattle.llvm_core.proofs.DataLemmas.{within_at}

-- ---- lists that are made one by one

pub mapped_more : {X Y : Type 0} (f : X → Y) (xs : List X) (i : ℕ) (d : X) (done new : List Y) → i < length xs → done ≡ map f (take i xs) → new ≡ done ++ f (get_or xs i d) ∷ [] → new ≡ map f (take (i + 1) xs)
mapped_more {X} {Y} f xs i d done new lt before pushed =
    pushed ∙ ap (λ (ys : List Y). ys ++ f (get_or xs i d) ∷ []) before ∙ sym (ap (map f) (take_more xs i d lt) ∙ map-append f (take i xs) (get_or xs i d ∷ []))

-- ---- fields of a struct with a name

-- fields that are told are those of the struct
pub fields_told : (structs : List StructData) (name : List ℕ) (ts : List LLVMType) → HasFields structs name ts → named_fields structs name ≡ Some ts
fields_told structs name ts (s, b, named, body, types) =
    ap (option_and_then (λ (x : StructData). option_map (λ (f : StructFields). f.types) x.body)) named ∙ ap (option_map (λ (f : StructFields). f.types)) body ∙ ap Some types

pub fields_untold : (structs : List StructData) (name : List ℕ) → ((ts : List LLVMType) → ¬ HasFields structs name ts) → named_fields structs name ≡ None
fields_untold structs name deny = by (struct_named structs name) refl
  where
    inside : (s : StructData) → struct_named structs name ≡ Some s → (o : Option StructFields) → s.body ≡ o → option_map (λ (f : StructFields). f.types) o ≡ None
    inside s named None body = refl
    inside s named (Some b) body = absurd (deny b.types (s, b, named, body, refl))

    by : (o : Option StructData) → struct_named structs name ≡ o → option_and_then (λ (x : StructData). option_map (λ (f : StructFields). f.types) x.body) o ≡ None
    by None named = refl
    by (Some s) named = inside s named s.body refl

has_fields : (structs : List StructData) (name : List ℕ) (ts : List LLVMType) → named_fields structs name ≡ Some ts → HasFields structs name ts
has_fields structs name ts h = by (struct_named structs name) refl h
  where
    inside : (s : StructData) → struct_named structs name ≡ Some s → (o : Option StructFields) → s.body ≡ o → option_map (λ (f : StructFields). f.types) o ≡ Some ts → HasFields structs name ts
    inside s named None body h = cc
    inside s named (Some b) body h = (s, b, named, body, same_Some b.types ts h)

    by : (o : Option StructData) → struct_named structs name ≡ o → option_and_then (λ (x : StructData). option_map (λ (f : StructFields). f.types) x.body) o ≡ Some ts → HasFields structs name ts
    by None named h = cc
    by (Some s) named h = inside s named s.body refl h

found_at : {X : Type 0} (p : X → Bool) (xs : List X) (x : X) → find p xs ≡ Some x → (i : ℕ) × (slice_get xs i ≡ Some x)
found_at p [] x h = cc
found_at p (y ∷ ys) x h = by (p y) (found_at p ys x) h
  where
    by : (b : Bool) → (find p ys ≡ Some x → (i : ℕ) × (slice_get ys i ≡ Some x)) → (if b then Some y else find p ys) ≡ Some x → (i : ℕ) × (slice_get (y ∷ ys) i ≡ Some x)
    by true later h = (0, h)
    by false later h = let (i, at) = later h in (suc i, at)

fields_within : (m : Module) → IsModule m → (name : List ℕ) (ts : List LLVMType) → HasFields m.structs name ts → All (λ (u : LLVMType). u.0 < length m.types) ts
fields_within m s name ts (x, b, named, body, types) =
    let (i, at) = found_at (λ (y : StructData). bytes_eq y.name name) m.structs x named in
    let ok : AreFieldsIn m.types b = subst (λ (o : Option StructFields). IfSome o (AreFieldsIn m.types)) body (within_at m.structs (IsStructIn m.types) s.structs i x at) in
    subst (All (λ (u : LLVMType). u.0 < length m.types)) types ok.within

-- ---- pieces of one kind

each_at : {X : Type 0} (f : X → Piece) (xs : List X) (i : ℕ) (p : Piece) → slice_get (map f xs) i ≡ Some p → (x : X) × (slice_get xs i ≡ Some x) × (p ≡ f x)
each_at f [] i p h = cc
each_at f (x ∷ xs) zero p h = (x, refl, sym (same_Some (f x) p h))
each_at f (x ∷ xs) (suc i) p h = each_at f xs i p h

pub one_at : {X : Type 0} (n : ℕ) (x y : X) (i : ℕ) → slice_get (replicate n x) i ≡ Some y → y ≡ x
one_at zero x y i h = cc
one_at (suc n) x y zero h = sym (same_Some x y h)
one_at (suc n) x y (suc i) h = one_at n x y i h

module _ (m : Module) (t : LLVMType) (k : LLVMTypeKind) (at : slice_get m.types t.0 ≡ Some k) where
  -- zero, undef or poison of each of these types
  of_each : (fill : Fill) (ts : List LLVMType) → AreElements m.structs k ts → All (λ (u : LLVMType). u.0 < length m.types) ts → ArePiecesOf m t (map (P.Filled fill) ts)
  of_each fill ts fit within = record {
    kind = k;
    parts = ts;
    typed = at;
    fit = fit;
    count = length-map ts (P.Filled fill);
    each = λ i p u here is. let (x, was, same) = each_at (P.Filled fill) ts i p here in
        let eq = same_Some x u (sym was ∙ is) in
        subst (IsPieceOf m u) (sym same) (eq, within_at ts (λ (u : LLVMType). u.0 < length m.types) within i x was);
  }

  -- so many of one type
  of_one : (n : ℕ) (e : LLVMType) (p : Piece) → AreElements m.structs k (replicate n e) → IsPieceOf m e p → ArePiecesOf m t (replicate n p)
  of_one n e p fit one = record {
    kind = k;
    parts = replicate n e;
    typed = at;
    fit = fit;
    count = length-replicate n p ∙ sym (length-replicate n e);
    each = λ i q u here is. subst (λ (v : LLVMType). IsPieceOf m v q) (sym (one_at n e u i is)) (subst (IsPieceOf m e) (sym (one_at n p q i here)) one);
  }

  -- integers of 8 bits
  of_ints : (e : LLVMType) (bytes : List ℕ) → AreElements m.structs k (replicate (length bytes) e) → slice_get m.types e.0 ≡ Some (T.Int 8) → All (λ (b : ℕ). b < 2 ^ 8) bytes → ArePiecesOf m t (map (P.Int e) bytes)
  of_ints e bytes fit byte few = record {
    kind = k;
    parts = replicate (length bytes) e;
    typed = at;
    fit = fit;
    count = length-map bytes (P.Int e) ∙ sym (length-replicate (length bytes) e);
    each = λ i p u here is. let (b, was, same) = each_at (P.Int e) bytes i p here in
        subst (IsPieceOf m u) (sym same) (sym (one_at (length bytes) e u i is), byte, within_at bytes (λ (b : ℕ). b < 2 ^ 8) few i b was);
  }

  so_many_fit : (n : ℕ) (e : LLVMType) → (length (replicate n e) ≡ n) × All (λ (u : LLVMType). u ≡ e) (replicate n e)
  so_many_fit n e = (length-replicate n e, All-replicate (λ (u : LLVMType). u ≡ e) n e refl)

  fill_fits : IsModule m → (fill : Fill) (ps : List Piece) → fill_pieces m.structs fill k ≡ Some ps → IsTypeOver t.0 k → ArePiecesOf m t ps
  fill_fits s fill ps h over = by k at h over
    where
      there : (u : LLVMType) → u.0 < t.0 → u.0 < length m.types
      there u below = omega (arith, below, slice_get_within m.types t.0 k at)

      by : (l : LLVMTypeKind) → slice_get m.types t.0 ≡ Some l → fill_pieces m.structs fill l ≡ Some ps → IsTypeOver t.0 l → ArePiecesOf m t ps
      by T.Void is h over = cc
      by (T.Int width) is h over = cc
      by (T.Ptr space) is h over = cc
      by (T.Floating of) is h over = cc
      by (T.Other of) is h over = cc
      by (T.Array n e) is h over =
          let same = same_Some k (T.Array n e) (sym at ∙ is) in
          subst (ArePiecesOf m t) (same_Some _ ps h) (of_one n e (P.Filled fill e) (subst (λ (x : LLVMTypeKind). AreElements m.structs x (replicate n e)) (sym same) (so_many_fit n e)) (refl, there e over))
      by (T.Vector N.Fixed n e) is h over =
          let same = same_Some k (T.Vector N.Fixed n e) (sym at ∙ is) in
          subst (ArePiecesOf m t) (same_Some _ ps h) (of_one n e (P.Filled fill e) (subst (λ (x : LLVMTypeKind). AreElements m.structs x (replicate n e)) (sym same) (so_many_fit n e)) (refl, there e over))
      by (T.Vector N.Scalable n e) is h over = cc
      by (T.Literal fields layout) is h over =
          let same = same_Some k (T.Literal fields layout) (sym at ∙ is) in
          let within : All (λ (u : LLVMType). u.0 < length m.types) fields = λ i d lt. there _ (over i d lt) in
          subst (ArePiecesOf m t) (same_Some _ ps h) (of_each fill fields (subst (λ (x : LLVMTypeKind). AreElements m.structs x fields) (sym same) refl) within)
      by (T.Named name) is h over =
          let same = same_Some k (T.Named name) (sym at ∙ is) in
          let (ts, (told, made)) = part_of (map (P.Filled fill)) (named_fields m.structs name) ps h in
          let fields = has_fields m.structs name ts told in
          subst (ArePiecesOf m t) made (of_each fill ts (subst (λ (x : LLVMTypeKind). AreElements m.structs x ts) (sym same) fields) (fields_within m s name ts fields))
      by (T.Function result params variadic) is h over = cc

-- ---- the pieces of a constant

pub pieces_fit : (m : Module) (k : LLVMConstKind) (ps : List Piece) → IsModule m → IsConstIn m k → pieces m k ≡ Some ps → ArePiecesOf m (const_type k) ps
pieces_fit m (C.Int t value) ps s c h = cc
pieces_fit m (C.Filled fill t) ps s c h =
    let (k, at) = item_there m.types t.0 c.0 in
    fill_fits m t k at s fill ps (sym (ap (option_and_then (fill_pieces m.structs fill)) at) ∙ h) (s.types t.0 k at)
pieces_fit m (C.Bytes t bytes) ps s c h =
    let e = c.0.0.0 in
    let at = c.0.0.1 in
    subst (ArePiecesOf m t) (same_Some _ ps (sym (ap (option_and_then (byte_pieces bytes)) at) ∙ h))
    (of_ints m t (T.Array (length bytes) e) at e bytes (so_many_fit m t (T.Array (length bytes) e) at (length bytes) e) c.0.0.2 c.0.1)
pieces_fit m (C.List t elements) ps s c h =
    let l = c.0 in
    subst (ArePiecesOf m t) (same_Some _ ps h) (record {
      kind = l.kind;
      parts = l.parts;
      typed = l.typed;
      fit = l.fit;
      count = length-map elements P.There ∙ l.count;
      each = λ i p u here is. let (x, was, same) = each_at P.There elements i p here in subst (IsPieceOf m u) (sym same) (l.each i x u was is);
    })
pieces_fit m (C.Splat t element) ps s c h = cc
pieces_fit m (C.Placeholder number t) ps s c h = cc

-- with another at one place
pub pieces_set : (m : Module) (t : LLVMType) (ps : List Piece) (place : ℕ) (c : LLVMConst) → ArePiecesOf m t ps → FitsPlace m t place c → ArePiecesOf m t (slice_set ps place (P.There c))
pieces_set m t ps place c h fits = record {
  kind = h.kind;
  parts = h.parts;
  typed = h.typed;
  fit = h.fit;
  count = length-slice_set ps place (P.There c) ∙ h.count;
  each = λ i p u here is. by i p u is (slice_get-set_cases ps place i (P.There c) p here);
}
  where
    by : (i : ℕ) (p : Piece) (u : LLVMType) → slice_get h.parts i ≡ Some u → ((i ≡ place) × (p ≡ P.There c)) ⊎ (slice_get ps i ≡ Some p) → IsPieceOf m u p
    by i p u is (inl new) = subst (IsPieceOf m u) (sym new.1) (fits h.kind h.typed h.parts u h.fit (ap (slice_get h.parts) (sym new.0) ∙ is))
    by i p u is (inr old) = h.each i p u old is

-- ---- whether an element fits a place

module _ (m : Module) (place : ℕ) (c : LLVMConst) where
  pub fits_one : (count : ℕ) (t : LLVMType) → IsElement m.consts t c → (parts : List LLVMType) (u : LLVMType) → (length parts ≡ count) × All (λ (v : LLVMType). v ≡ t) parts → slice_get parts place ≡ Some u → IsElement m.consts u c
  fits_one count t h parts u fit at = subst (λ (v : LLVMType). IsElement m.consts v c) (sym (within_at parts (λ (v : LLVMType). v ≡ t) fit.1 place u at)) h

  pub fits_vector : (n : VectorTypeKind) (count : ℕ) (t : LLVMType) → IsElement m.consts t c → FitsKind m (T.Vector n count t) place c
  fits_vector N.Fixed count t h = fits_one count t h
  fits_vector N.Scalable count t h = λ parts u fit at. absurd fit

  pub fits_fields : (ts : List LLVMType) → ((u : LLVMType) → slice_get ts place ≡ Some u → IsElement m.consts u c) → (parts : List LLVMType) (u : LLVMType) → parts ≡ ts → slice_get parts place ≡ Some u → IsElement m.consts u c
  fits_fields ts h parts u fit at = h u (ap (λ (xs : List LLVMType). slice_get xs place) (sym fit) ∙ at)
