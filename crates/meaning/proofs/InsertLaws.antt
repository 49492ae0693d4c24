-- A constant with another element at one place has the term of the constant into which that of the element is put.
use Rattle.std.proofs.Common.{◌≡◌, ◌<◌, ◌+◌, ℕ, zero, suc, Bool, true, false, ◌&&◌, nat_lt, nat_eq, refl, ap, sym, subst, ◌∙◌, List, [], ◌∷◌, map, length, Option, Some, None, if◌then◌else◌, arith}
use Rattle.std.specs.List.{list_all}
use Rattle.std.proofs.lemmas.Bool.{and_parts, eqb-true, ltb-true, lt-ltb}
use Rattle.std.specs.Option.{option_map, option_map_or, option_and_then}
use Rattle.kinds.specs.declared.fill.Fill.{Fill}
use Rattle.kinds.specs.declared.fill.Fill.TheVariants as F
use Rattle.kinds.specs.declared.types.VectorTypeKind.TheVariants as V
use Rattle.kinds.specs.Fill.{is_own_fill}
use Rattle.kinds.specs.Held.{width_in}
use Rattle.kinds.specs.Structs.{Struct}
use Rattle.kinds.specs.Types.{TypeTree, VoidType, IntType, PointerType, FloatingType, RefusedType, ArrayType, VectorType, StructType, NamedType, FunctionType, TypeTrees, NoTypes, ThenType, shape}
use Rattle.llvm_core.specs.Consts.{common_fill, is_fill, all_ints, is_zero}
use Rattle.llvm_core.specs.Data.{ConstTree, IntConst, FilledConst, BytesConst, ListConst, SplatConst, PlaceholderConst, ConstTrees, NoConsts, ThenConst, fill_in, int_in, told_of, const_type, is_byte_array, listed, filled_const, formed}
use Rattle.llvm_core.specs.Form.{IsFormConst, AreFormConsts}
use Rattle.llvm_core.specs.Elements.{is_element, are_all, are_elements, HasElements}
use Rattle.llvm_core.specs.Inserted as I
use Rattle.llvm_core.specs.Inserted.{ints_of, so_many, fields_in, count, inserted}
use Rattle.meaning.specs.Terms.{Term, Int, Filled, ListOf, SplatOf, Insert, Terms, ThenTerm, Places, terms_of, filled_term}
use Rattle.meaning.specs.Constants.{fill_of, fills_of, list_term, bytes_term, splat_term, copies}
use Rattle.meaning.specs.Insert.{of_each, opened, term_at, with_term_at, replaced, replaced_in, put, MayStand}
use Rattle.meaning.specs.Setting.{Setting}
use Rattle.meaning.specs.Llvm.{const_term, const_terms}
use Rattle.meaning.proofs.FormedLaws.{count_consts, HasByteWidth, HaveByteWidth, AsksFor, filled_fill, zero_bytes, filled_formed, listed_term}

-- ---- what the types of elements ask for

-- a type of 8 bits is that of integers
eight_bits : (t : TypeTree) → nat_eq (width_in t) 8 ≡ true → t ≡ IntType 8
eight_bits VoidType h = absurd cc
eight_bits (IntType w) h = ap IntType (eqb-true w 8 h)
eight_bits (PointerType space) h = absurd cc
eight_bits (FloatingType of) h = absurd cc
eight_bits (RefusedType of) h = absurd cc
eight_bits (ArrayType n t) h = absurd cc
eight_bits (VectorType kind n t) h = absurd cc
eight_bits (StructType layout ts) h = absurd cc
eight_bits (NamedType name) h = absurd cc
eight_bits (FunctionType result params variadic) h = absurd cc

element_byte : (c : ConstTree) → is_element (IntType 8) c ≡ true → HasByteWidth c
element_byte (IntConst w v) h = eqb-true w 8 (and_parts (nat_eq w 8) true h).0
element_byte (FilledConst fill t) h = tt
element_byte (BytesConst bytes) h = tt
element_byte (ListConst t cs) h = tt
element_byte (SplatConst t c) h = tt
element_byte (PlaceholderConst n t) h = tt

all_bytes : (n : ℕ) (cs : ConstTrees) → are_all n (IntType 8) cs ≡ true → (n ≡ count_consts cs) × HaveByteWidth cs
all_bytes zero NoConsts h = (refl, tt)
all_bytes zero (ThenConst c cs) h = absurd cc
all_bytes (suc n) NoConsts h = absurd cc
all_bytes (suc n) (ThenConst c cs) h =
    let parts = and_parts (is_element (IntType 8) c) (are_all n (IntType 8) cs) h in
    let rest = all_bytes n cs parts.1 in
    let same = rest.0 in
    (omega (arith, same), (element_byte c parts.0, rest.1))

-- so many elements of a type of 8 bits are what an array of it asks for
array_asks : (n : ℕ) (t : TypeTree) (cs : ConstTrees) → (t ≡ IntType 8 → (n ≡ count_consts cs) × HaveByteWidth cs) → AsksFor (ArrayType n t) cs
array_asks n t cs h = record {
  made = refl;
  bytes = λ is.
      let byte = eight_bits t is in
      let rest = h byte in
      (cc (byte, rest.0), rest.1);
}

-- of another type nothing is asked but that its zero is no integer
other_asks : (type : TypeTree) (cs : ConstTrees) → is_own_fill F.Zero (shape type) ≡ true → is_byte_array type ≡ false → AsksFor type cs
other_asks type cs made other = record { made = made; bytes = λ is. absurd cc }

list_asks : (structs : List Struct) (type : TypeTree) (cs : ConstTrees) → are_elements structs type cs ≡ true → AsksFor type cs
list_asks structs VoidType cs h = absurd cc
list_asks structs (IntType w) cs h = absurd cc
list_asks structs (PointerType space) cs h = absurd cc
list_asks structs (FloatingType of) cs h = absurd cc
list_asks structs (RefusedType of) cs h = absurd cc
list_asks structs (ArrayType n t) cs h = array_asks n t cs (λ is. all_bytes n cs (ap (λ (u : TypeTree). are_all n u cs) (sym is) ∙ h))
list_asks structs (VectorType kind n t) cs h = other_asks (VectorType kind n t) cs refl refl
list_asks structs (StructType layout ts) cs h = other_asks (StructType layout ts) cs refl refl
list_asks structs (NamedType name) cs h = other_asks (NamedType name) cs refl refl
list_asks structs (FunctionType result params variadic) cs h = absurd cc

-- zero, undef or poison of integers of 8 bits, so many times
many_bytes : (n : ℕ) (fill : Fill) → (n ≡ count_consts (so_many n fill (IntType 8))) × HaveByteWidth (so_many n fill (IntType 8))
many_bytes zero fill = (refl, tt)
many_bytes (suc n) fill =
    let same = (many_bytes n fill).0 in
    (omega (arith, same), (by fill, (many_bytes n fill).1))
  where
    by : (f : Fill) → HasByteWidth (filled_const f (IntType 8))
    by F.Zero = refl
    by F.Undef = tt
    by F.Poison = tt

fill_asks : (structs : List Struct) (fill : Fill) (type : TypeTree) (cs : ConstTrees) → I.opened_fill structs fill type ≡ Some cs → AsksFor type cs
fill_asks structs fill VoidType cs h = absurd cc
fill_asks structs fill (IntType w) cs h = absurd cc
fill_asks structs fill (PointerType space) cs h = absurd cc
fill_asks structs fill (FloatingType of) cs h = absurd cc
fill_asks structs fill (RefusedType of) cs h = absurd cc
fill_asks structs fill (ArrayType n t) cs h =
    let is : so_many n fill t ≡ cs = cc in
    array_asks n t cs (λ byte. subst (λ (ds : ConstTrees). (n ≡ count_consts ds) × HaveByteWidth ds) (ap (so_many n fill) (sym byte) ∙ is) (many_bytes n fill))
fill_asks structs fill (VectorType kind n t) cs h = other_asks (VectorType kind n t) cs refl refl
fill_asks structs fill (StructType layout ts) cs h = other_asks (StructType layout ts) cs refl refl
fill_asks structs fill (NamedType name) cs h = other_asks (NamedType name) cs refl refl
fill_asks structs fill (FunctionType result params variadic) cs h = absurd cc

int_bytes : (bytes : List ℕ) → (length bytes ≡ count_consts (ints_of bytes)) × HaveByteWidth (ints_of bytes)
int_bytes [] = (refl, tt)
int_bytes (b ∷ bytes) =
    let same = (int_bytes bytes).0 in
    (omega (arith, same), (refl, (int_bytes bytes).1))

-- the elements of a constant are what its type asks for
opened_asks : (structs : List Struct) (c : ConstTree) (cs : ConstTrees) → HasElements structs c → I.opened structs c ≡ Some cs → AsksFor (const_type c) cs
opened_asks structs (IntConst w v) cs h is = absurd cc
opened_asks structs (FilledConst fill type) cs h is = fill_asks structs fill type cs is
opened_asks structs (BytesConst bytes) cs h is =
    let same : ints_of bytes ≡ cs = cc in
    array_asks (length bytes) (IntType 8) cs (λ byte. subst (λ (ds : ConstTrees). (length bytes ≡ count_consts ds) × HaveByteWidth ds) same (int_bytes bytes))
opened_asks structs (ListConst type es) cs h is =
    let same : es ≡ cs = cc in
    list_asks structs type cs (ap (are_elements structs type) (sym same) ∙ h.0)
opened_asks structs (SplatConst type c) cs h is = absurd cc
opened_asks structs (PlaceholderConst n type) cs h is = absurd cc

-- ---- with another element

replaced_count : (cs : ConstTrees) (place : ℕ) (x : ConstTree) → count_consts (I.replaced cs place x) ≡ count_consts cs
replaced_count NoConsts place x = refl
replaced_count (ThenConst c cs) zero x = refl
replaced_count (ThenConst c cs) (suc place) x = ap (λ (n : ℕ). 1 + n) (replaced_count cs place x)

replaced_bytes : (cs : ConstTrees) (place : ℕ) (x : ConstTree) → HaveByteWidth cs → HasByteWidth x → HaveByteWidth (I.replaced cs place x)
replaced_bytes NoConsts place x h b = tt
replaced_bytes (ThenConst c cs) zero x h b = (b, h.1)
replaced_bytes (ThenConst c cs) (suc place) x h b = (h.0, replaced_bytes cs place x h.1 b)

-- what may stand at a place of an array of integers of 8 bits
stands_byte : (structs : List Struct) (type : TypeTree) (place : ℕ) (x : ConstTree) (n : ℕ) → MayStand structs type place x → type ≡ ArrayType n (IntType 8) → place < n → HasByteWidth x
stands_byte structs type place x n may is below =
    element_byte x ((subst (λ (t : TypeTree). MayStand structs t place x) is may) (IntType 8) (ap (λ (b : Bool). if b then Some (IntType 8) else None) (lt-ltb place n below)))

same_count : (cs : ConstTrees) → count cs ≡ count_consts cs
same_count NoConsts = refl
same_count (ThenConst c cs) =
    let same = same_count cs in
    omega (arith, same)

replaced_asks : (structs : List Struct) (type : TypeTree) (cs : ConstTrees) (place : ℕ) (x : ConstTree) → AsksFor type cs → MayStand structs type place x → place < count cs → AsksFor type (I.replaced cs place x)
replaced_asks structs type cs place x h may below = record {
  made = h.made;
  bytes = λ is.
      let asks = h.bytes is in
      let there : place < count_consts cs = subst (λ (n : ℕ). place < n) (same_count cs) below in
      (asks.0 ∙ ap (λ (n : ℕ). ArrayType n (IntType 8)) (sym (replaced_count cs place x)), replaced_bytes cs place x asks.1 (stands_byte structs type place x (count_consts cs) may asks.0 there));
}

-- ---- constants in one form are known by their elements

listed_none : (type : TypeTree) (cs : ConstTrees) → listed type cs ≡ ListConst type cs → common_fill (told_of fill_in cs) ≡ None
listed_none type cs = by (common_fill (told_of fill_in cs)) (if is_byte_array type then all_ints (told_of int_in cs) else None)
  where
    by : (o : Option Fill) (bytes : Option (List ℕ)) → option_map_or (λ fill. FilledConst fill type) o (option_map_or BytesConst bytes (ListConst type cs)) ≡ ListConst type cs → o ≡ None
    by None bytes h = refl
    by (Some fill) bytes h = absurd cc

some_byte : (bytes : List ℕ) → formed (BytesConst bytes) ≡ BytesConst bytes → list_all is_zero bytes ≡ false
some_byte bytes = by (list_all is_zero bytes)
  where
    by : (z : Bool) → (if z then FilledConst F.Zero (ArrayType (length bytes) (IntType 8)) else BytesConst bytes) ≡ BytesConst bytes → z ≡ false
    by true h = absurd cc
    by false h = refl

-- an integer is not of that fill, which is not zero
no_fill : (fill : Fill) (b : ℕ) (bs : List ℕ) → is_fill fill (Some F.Zero) ≡ false → list_all (is_fill fill) (fills_of (terms_of (map (Int 8) (b ∷ bs)))) ≡ false
no_fill fill b bs other = by (is_zero b)
  where
    by : (z : Bool) → (is_fill fill (if z then Some F.Zero else None) && list_all (is_fill fill) (fills_of (terms_of (map (Int 8) bs)))) ≡ false
    by true = ap (λ (x : Bool). x && list_all (is_fill fill) (fills_of (terms_of (map (Int 8) bs)))) other
    by false = refl

-- what is no fill of the three is none
no_common : (z u p : Bool) → z ≡ false → u ≡ false → p ≡ false → (if z then Some F.Zero else if u then Some F.Undef else if p then Some F.Poison else None) ≡ None
no_common false false false hz hu hp = refl
no_common true u p hz hu hp = absurd cc
no_common false true p hz hu hp = absurd cc
no_common false false true hz hu hp = absurd cc

bytes_none : (bytes : List ℕ) → list_all is_zero bytes ≡ false → common_fill (fills_of (terms_of (map (Int 8) bytes))) ≡ None
bytes_none [] h = absurd cc
bytes_none (b ∷ bs) h =
    let fills = fills_of (terms_of (map (Int 8) (b ∷ bs))) in
    no_common (list_all (is_fill F.Zero) fills) (list_all (is_fill F.Undef) fills) (list_all (is_fill F.Poison) fills)
    (zero_bytes (b ∷ bs) ∙ h) (no_fill F.Undef b bs refl) (no_fill F.Poison b bs refl)

-- what is no fill is known by its elements
known_list : (type : TypeTree) (ts : Terms) → common_fill (fills_of ts) ≡ None → list_term type ts ≡ ListOf type ts
known_list type ts h = ap (λ (o : Option Fill). option_map_or (λ (fill : Fill). Filled fill type) o (ListOf type ts)) h

known_splat : (type : TypeTree) (t : Term) → fill_of t ≡ None → splat_term type t ≡ SplatOf type t
known_splat type t h = ap (λ (o : Option Fill). option_map_or (λ (fill : Fill). Filled fill type) o (SplatOf type t)) h

splat_none : (type : TypeTree) (c : ConstTree) → formed (SplatConst type c) ≡ SplatConst type c → fill_in c ≡ None
splat_none type c = by (fill_in c)
  where
    by : (o : Option Fill) → option_map_or (λ fill. FilledConst fill type) o (SplatConst type c) ≡ SplatConst type c → o ≡ None
    by None h = refl
    by (Some fill) h = absurd cc

bytes_known : (bytes : List ℕ) → formed (BytesConst bytes) ≡ BytesConst bytes → bytes_term bytes ≡ ListOf (ArrayType (length bytes) (IntType 8)) (terms_of (map (Int 8) bytes))
bytes_known bytes h = known_list (ArrayType (length bytes) (IntType 8)) (terms_of (map (Int 8) bytes)) (bytes_none bytes (some_byte bytes h))

module _ (setting : Setting) where
  -- the term of a constant of the form is zero, undef or poison where the constant is that
  mutual
    fill_same : (c : ConstTree) → IsFormConst c → fill_of (const_term setting c) ≡ fill_in c
    fill_same (IntConst w v) h = refl
    fill_same (FilledConst fill type) h = filled_fill fill type
    fill_same (BytesConst bytes) h = ap fill_of (bytes_known bytes h.1)
    fill_same (ListConst type cs) h = ap fill_of (known_list type (const_terms setting cs) (ap common_fill (fills_same cs h.1) ∙ listed_none type cs h.0))
    fill_same (SplatConst type c) h = ap fill_of (known_splat type (const_term setting c) (fill_same c h.1 ∙ splat_none type c h.0))
    fill_same (PlaceholderConst n type) h = absurd h

    fills_same : (cs : ConstTrees) → AreFormConsts cs → fills_of (const_terms setting cs) ≡ told_of fill_in cs
    fills_same NoConsts h = refl
    fills_same (ThenConst c cs) h = cc (fill_same c h.0, fills_same cs h.1)

  list_known : (type : TypeTree) (cs : ConstTrees) → IsFormConst (ListConst type cs) → list_term type (const_terms setting cs) ≡ ListOf type (const_terms setting cs)
  list_known type cs h = known_list type (const_terms setting cs) (ap common_fill (fills_same cs h.1) ∙ listed_none type cs h.0)

  splat_known : (type : TypeTree) (c : ConstTree) → IsFormConst (SplatConst type c) → splat_term type (const_term setting c) ≡ SplatOf type (const_term setting c)
  splat_known type c h = known_splat type (const_term setting c) (fill_same c h.1 ∙ splat_none type c h.0)

  -- ---- opened up

  terms_of_many : (n : ℕ) (fill : Fill) (t : TypeTree) → const_terms setting (so_many n fill t) ≡ copies n (filled_term fill t)
  terms_of_many zero fill t = refl
  terms_of_many (suc n) fill t = cc (filled_formed setting fill t, terms_of_many n fill t)

  terms_of_each : (fill : Fill) (ts : TypeTrees) → const_terms setting (I.of_each fill ts) ≡ of_each fill ts
  terms_of_each fill NoTypes = refl
  terms_of_each fill (ThenType t ts) = cc (filled_formed setting fill t, terms_of_each fill ts)

  terms_of_ints : (bytes : List ℕ) → const_terms setting (ints_of bytes) ≡ terms_of (map (Int 8) bytes)
  terms_of_ints [] = refl
  terms_of_ints (b ∷ bytes) = ap (ThenTerm (Int 8 b)) (terms_of_ints bytes)

  -- what the elements of a constant are on terms, where it has any
  abbrev their_terms : (type : TypeTree) → Option ConstTrees → Option (TypeTree × Terms)
  their_terms type o = option_map (λ (cs : ConstTrees). (type, const_terms setting cs)) o

  opened_filled : (structs : List Struct) (fill : Fill) (type : TypeTree) → opened structs (Filled fill type) ≡ their_terms type (I.opened_fill structs fill type)
  opened_filled structs fill VoidType = refl
  opened_filled structs fill (IntType w) = refl
  opened_filled structs fill (PointerType space) = refl
  opened_filled structs fill (FloatingType of) = refl
  opened_filled structs fill (RefusedType of) = refl
  opened_filled structs fill (ArrayType n t) = ap (λ (ts : Terms). Some (ArrayType n t, ts)) (sym (terms_of_many n fill t))
  opened_filled structs fill (VectorType V.Fixed n t) = ap (λ (ts : Terms). Some (VectorType V.Fixed n t, ts)) (sym (terms_of_many n fill t))
  opened_filled structs fill (VectorType V.Scalable n t) = refl
  opened_filled structs fill (StructType layout ts) = ap (λ (us : Terms). Some (StructType layout ts, us)) (sym (terms_of_each fill ts))
  opened_filled structs fill (NamedType name) = by (fields_in structs name)
    where
      by : (o : Option TypeTrees) → option_map (λ (ts : Terms). (NamedType name, ts)) (option_map (of_each fill) o) ≡ their_terms (NamedType name) (option_map (I.of_each fill) o)
      by None = refl
      by (Some ts) = ap (λ (us : Terms). Some (NamedType name, us)) (sym (terms_of_each fill ts))
  opened_filled structs fill (FunctionType result params variadic) = refl

  -- the term of a constant opens up where the constant does, into the terms of its elements
  opened_term : (structs : List Struct) (c : ConstTree) → IsFormConst c → opened structs (const_term setting c) ≡ their_terms (const_type c) (I.opened structs c)
  opened_term structs (IntConst w v) h = refl
  opened_term structs (FilledConst fill type) h =
      ap (opened structs) (ap (λ (b : Bool). if b then Filled fill type else Int (width_in type) 0) h) ∙ opened_filled structs fill type
  opened_term structs (BytesConst bytes) h =
      ap (opened structs) (bytes_known bytes h.1) ∙ ap (λ (ts : Terms). Some (ArrayType (length bytes) (IntType 8), ts)) (sym (terms_of_ints bytes))
  opened_term structs (ListConst type cs) h = ap (opened structs) (list_known type cs h)
  opened_term structs (SplatConst type c) h = ap (opened structs) (splat_known type c h)
  opened_term structs (PlaceholderConst n type) h = absurd h

  -- ---- put in

  term_there : (cs : ConstTrees) (place : ℕ) → place < count cs → (c : ConstTree) × (term_at (const_terms setting cs) place ≡ Some (const_term setting c))
  term_there NoConsts place h = absurd (omega arith)
  term_there (ThenConst c cs) zero h = (c, refl)
  term_there (ThenConst c cs) (suc place) h = term_there cs place (omega arith)

  terms_with : (cs : ConstTrees) (place : ℕ) (x : ConstTree) → with_term_at (const_terms setting cs) place (const_term setting x) ≡ const_terms setting (I.replaced cs place x)
  terms_with NoConsts place x = refl
  terms_with (ThenConst c cs) zero x = refl
  terms_with (ThenConst c cs) (suc place) x = ap (ThenTerm (const_term setting c)) (terms_with cs place x)

  -- into the terms of elements, at a place that is there
  put_there : (type : TypeTree) (cs : ConstTrees) (place : ℕ) (x : ConstTree) (otherwise : Term) → place < count cs → AsksFor type (I.replaced cs place x)
      → replaced_in (Some (type, const_terms setting cs)) place (λ old. const_term setting x) otherwise ≡ const_term setting (listed type (I.replaced cs place x))
  put_there type cs place x otherwise below asks =
      let (c, is) = term_there cs place below in
      ap (λ (o : Option Term). replaced type (const_terms setting cs) place o (λ old. const_term setting x) otherwise) is
      ∙ ap (list_term type) (terms_with cs place x)
      ∙ sym (listed_term setting type (I.replaced cs place x) asks)

  -- where the elements of the constant are known, or not
  module _ (structs : List Struct) (c : ConstTree) (place : ℕ) (x d : ConstTree) (otherwise : Term) (may : MayStand structs (const_type c) place x) where
    put_below : (cs : ConstTrees) (b : Bool) → nat_lt place (count cs) ≡ b → AsksFor (const_type c) cs → (if b then Some (listed (const_type c) (I.replaced cs place x)) else None) ≡ Some d
        → replaced_in (Some (const_type c, const_terms setting cs)) place (λ old. const_term setting x) otherwise ≡ const_term setting d
    put_below cs false lt asks e = absurd cc
    put_below cs true lt asks e =
        let same : listed (const_type c) (I.replaced cs place x) ≡ d = cc in
        let below = ltb-true place (count cs) lt in
        put_there (const_type c) cs place x otherwise below (replaced_asks structs (const_type c) cs place x asks may below) ∙ ap (const_term setting) same

    put_opened : (o : Option ConstTrees) → I.opened structs c ≡ o → HasElements structs c
        → option_and_then (λ (cs : ConstTrees). if nat_lt place (count cs) then Some (listed (const_type c) (I.replaced cs place x)) else None) o ≡ Some d
        → replaced_in (their_terms (const_type c) o) place (λ old. const_term setting x) otherwise ≡ const_term setting d
    put_opened None at made e = absurd cc
    put_opened (Some cs) at made e = put_below cs (nat_lt place (count cs)) refl (opened_asks structs c cs made at) e

-- the constant with another element at one place has the term with that of the element put in
pub inserted_term : (structs : List Struct) (c : ConstTree) (place : ℕ) (x d : ConstTree) (setting : Setting) → IsFormConst c → HasElements structs c → MayStand structs (const_type c) place x
    → inserted structs c place x ≡ Some d → put structs (const_term setting c) ((const_type c, place) ∷ []) (const_term setting x) ≡ const_term setting d
inserted_term structs c place x d setting form made may is =
    let stands = Insert (const_type c) (const_term setting c) (Places (place ∷ [])) (const_term setting x) in
    ap (λ (o : Option (TypeTree × Terms)). replaced_in o place (λ old. const_term setting x) stands) (opened_term setting structs c form)
    ∙ put_opened setting structs c place x d stands may (I.opened structs c) refl made is
