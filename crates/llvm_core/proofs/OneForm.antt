-- The one form of what a constant may be made of is a constant that a module may hold.
use Rattle.std.proofs.Common.{◌≡◌, ◌<◌, ◌^◌, ℕ, suc, Bool, true, false, not, ◌&&◌, if◌then◌else◌, List, [], ◌∷◌, Option, Some, None, All, length, slice_get, ap, sym, ◌∙◌, refl, subst, arith}
use Rattle.std.specs.Prelude.{IfSome}
use Rattle.std.specs.List.{list_all}
use Rattle.std.specs.Option.{option_map, option_map_or, option_and_then}
use Rattle.std.proofs.lemmas.Bool.{not-false, eqb-true}
use Rattle.std.proofs.lemmas.List.Elements.{All-head, All-tail, All-nil, All-cons}
use Rattle.std.proofs.lemmas.Nat.{pow_pos}
use Rattle.std.proofs.lemmas.Option.{slice_get_within, same_Some}
use Rattle.support.proofs.ListLaws.{item_there}
use Rattle.kinds.specs.declared.fill.Fill.{Fill}
use Rattle.kinds.specs.declared.fill.Fill.TheVariants as F
use Rattle.kinds.specs.declared.fitting.Shape.{Shape}
use Rattle.kinds.specs.declared.fitting.Shape.TheVariants as S
use Rattle.kinds.specs.Fill.{is_own_fill}
use Rattle.kinds.specs.Fitting.{is_number, width_of}
use Rattle.llvm_core.specs.declared.numbers.LLVMType.{LLVMType}
use Rattle.llvm_core.specs.declared.numbers.LLVMConst.{LLVMConst}
use Rattle.llvm_core.specs.declared.types.LLVMTypeKind.{LLVMTypeKind}
use Rattle.llvm_core.specs.declared.types.LLVMTypeKind.TheVariants as T
use Rattle.llvm_core.specs.declared.consts.LLVMConstKind.{LLVMConstKind}
use Rattle.llvm_core.specs.declared.consts.LLVMConstKind.TheVariants as C
use Rattle.llvm_core.specs.declared.structs.StructData.{StructData}
use Rattle.llvm_core.specs.Module.{Module}
use Rattle.llvm_core.specs.Parts.{shape_of, shape_at, is_kind, const_type}
use Rattle.llvm_core.specs.Consts.{IsAt, IsElement, AreElements, IsListOf, HasConstParts, FitBytes, IsConstIn, fill_of, is_fill, common_fill, int_of, all_ints, told, is_zero, is_byte_array, list_form, one_form}
use Rattle.llvm_core.specs.Sound.{IsModule}
use Rattle.llvm_core.proofs.DataLemmas.{within_at}

-- ---- types

-- a type that rules take for an integer type is one
number_type : (o : Option LLVMTypeKind) → is_number (option_map_or shape_of o S.Void) ≡ true → (w : ℕ) × (o ≡ Some (T.Int w))
number_type None h = absurd cc
number_type (Some (T.Int w)) h = (w, refl)
number_type (Some T.Void) h = absurd cc
number_type (Some (T.Ptr space)) h = absurd cc
number_type (Some (T.Floating of)) h = absurd cc
number_type (Some (T.Other of)) h = absurd cc
number_type (Some (T.Array count t)) h = absurd cc
number_type (Some (T.Vector kind count t)) h = absurd cc
number_type (Some (T.Literal fields layout)) h = absurd cc
number_type (Some (T.Named name)) h = absurd cc
number_type (Some (T.Function result params variadic)) h = absurd cc

-- what has a width is an integer type
wide_number : (s : Shape) (w : ℕ) → width_of s ≡ suc w → is_number s ≡ true
wide_number (S.Int v) w h = refl
wide_number S.Void w h = cc
wide_number (S.Pointer space) w h = cc
wide_number S.Other w h = cc
wide_number (S.Refused of) w h = cc
wide_number S.Made w h = cc
wide_number S.Named w h = cc
wide_number S.Function w h = cc

byte_type : (o : Option LLVMTypeKind) → width_of (option_map_or shape_of o S.Void) ≡ 8 → o ≡ Some (T.Int 8)
byte_type o h =
    let (w, is) = number_type o (wide_number (option_map_or shape_of o S.Void) 7 h) in
    is ∙ ap (λ (n : ℕ). Some (T.Int n)) (sym (ap (λ (x : Option LLVMTypeKind). width_of (option_map_or shape_of x S.Void)) is) ∙ h)

-- an array of integers of 8 bits
array_of_bytes : (types : List LLVMTypeKind) (k : LLVMTypeKind) → is_byte_array types k ≡ true → (count : ℕ) × (e : LLVMType) × (k ≡ T.Array count e) × (slice_get types e.0 ≡ Some (T.Int 8))
array_of_bytes types (T.Array count e) h = (count, e, refl, byte_type (slice_get types e.0) (eqb-true (width_of (shape_at types e)) 8 h))
array_of_bytes types T.Void h = absurd cc
array_of_bytes types (T.Int width) h = absurd cc
array_of_bytes types (T.Ptr space) h = absurd cc
array_of_bytes types (T.Floating of) h = absurd cc
array_of_bytes types (T.Other of) h = absurd cc
array_of_bytes types (T.Vector kind count t) h = absurd cc
array_of_bytes types (T.Literal fields layout) h = absurd cc
array_of_bytes types (T.Named name) h = absurd cc
array_of_bytes types (T.Function result params variadic) h = absurd cc

-- zero, undef and poison of what is no integer type are constants of their own
own_fill : (fill : Fill) (s : Shape) → is_number s ≡ false → is_own_fill fill s ≡ true
own_fill F.Zero s h = ap not h
own_fill F.Undef s h = refl
own_fill F.Poison s h = refl

-- what has elements is no integer type
no_number : (structs : List StructData) (k : LLVMTypeKind) (ts : List LLVMType) → AreElements structs k ts → is_number (shape_of k) ≡ false
no_number structs (T.Int width) ts h = absurd h
no_number structs T.Void ts h = refl
no_number structs (T.Ptr space) ts h = refl
no_number structs (T.Floating of) ts h = refl
no_number structs (T.Other of) ts h = refl
no_number structs (T.Array count t) ts h = refl
no_number structs (T.Vector kind count t) ts h = refl
no_number structs (T.Literal fields layout) ts h = refl
no_number structs (T.Named name) ts h = refl
no_number structs (T.Function result params variadic) ts h = refl

-- ---- integers

-- the kind of a constant with a value is that of an integer
int_kind : (k : LLVMConstKind) (n : ℕ) → int_of k ≡ Some n → k ≡ C.Int (const_type k) n
int_kind (C.Int t v) n h = ap (C.Int t) (same_Some v n h)
int_kind (C.Filled fill t) n h = cc
int_kind (C.Bytes t bytes) n h = cc
int_kind (C.List t elements) n h = cc
int_kind (C.Splat t element) n h = cc
int_kind (C.Placeholder number t) n h = cc

-- an integer is zero where its value is 0
zero_int : (k : LLVMConstKind) (n : ℕ) → int_of k ≡ Some n → is_fill F.Zero (fill_of k) ≡ is_zero n
zero_int (C.Int t v) n h = by (is_zero v) ∙ ap is_zero (same_Some v n h)
  where
    by : (b : Bool) → is_fill F.Zero (if b then Some F.Zero else None) ≡ b
    by true = refl
    by false = refl
zero_int (C.Filled fill t) n h = cc
zero_int (C.Bytes t bytes) n h = cc
zero_int (C.List t elements) n h = cc
zero_int (C.Splat t element) n h = cc
zero_int (C.Placeholder number t) n h = cc

-- values, of which there are as many as constants, are all told
pub record FirstValue (o : Option ℕ) (os : List (Option ℕ)) (ns : List ℕ) : Type 0 where
  pub first : ℕ
  pub rest : List ℕ
  pub here : o ≡ Some first
  pub others : all_ints os ≡ Some rest
  pub is : ns ≡ first ∷ rest

pub first_value : (o : Option ℕ) (os : List (Option ℕ)) (ns : List ℕ) → all_ints (o ∷ os) ≡ Some ns → FirstValue o os ns
first_value None os ns h = absurd cc
first_value (Some n) os ns h = by (all_ints os) refl h
  where
    by : (r : Option (List ℕ)) → all_ints os ≡ r → option_map (λ xs. n ∷ xs) r ≡ Some ns → FirstValue (Some n) os ns
    by None e h = absurd cc
    by (Some xs) e h = record { first = n; rest = xs; here = refl; others = e; is = sym (same_Some (n ∷ xs) ns h) }

module _ (consts : List LLVMConstKind) where
  -- the kind of what tells something
  told_kind : {X : Type 0} (f : LLVMConstKind → Option X) (o : Option LLVMConstKind) (x : X) → option_and_then f o ≡ Some x → (k : LLVMConstKind) × (o ≡ Some k) × (f k ≡ Some x)
  told_kind f None x h = absurd cc
  told_kind f (Some k) x h = (k, refl, h)

  ints_count : (cs : List LLVMConst) (ns : List ℕ) → all_ints (told int_of consts cs) ≡ Some ns → length ns ≡ length cs
  ints_count [] ns h = ap length (sym (same_Some [] ns h))
  ints_count (c ∷ cs) ns h =
      let v = first_value (option_and_then int_of (slice_get consts c.0)) (told int_of consts cs) ns h in
      ap length v.is ∙ ap suc (ints_count cs v.rest v.others)

  ints_zero : (cs : List LLVMConst) (ns : List ℕ) → all_ints (told int_of consts cs) ≡ Some ns → list_all (is_fill F.Zero) (told fill_of consts cs) ≡ list_all is_zero ns
  ints_zero [] ns h = ap (list_all is_zero) (same_Some [] ns h)
  ints_zero (c ∷ cs) ns h =
      let v = first_value (option_and_then int_of (slice_get consts c.0)) (told int_of consts cs) ns h in
      let (k, at, is) = told_kind int_of (slice_get consts c.0) v.first v.here in
      let filled = list_all (is_fill F.Zero) (told fill_of consts cs) in
      ap (λ (o : Option LLVMConstKind). is_fill F.Zero (option_and_then fill_of o) && filled) at ∙ ap (λ (b : Bool). b && filled) (zero_int k v.first is) ∙ ap (λ (b : Bool). is_zero v.first && b) (ints_zero cs v.rest v.others)
      ∙ ap (list_all is_zero) (sym v.is)

  ints_few : (cs : List LLVMConst) (ns : List ℕ) → FitBytes consts cs → all_ints (told int_of consts cs) ≡ Some ns → All (λ (n : ℕ). n < 2 ^ 8) ns
  ints_few [] ns few h = subst (All (λ (n : ℕ). n < 2 ^ 8)) (same_Some [] ns h) (All-nil (λ (n : ℕ). n < 2 ^ 8))
  ints_few (c ∷ cs) ns few h =
      let v = first_value (option_and_then int_of (slice_get consts c.0)) (told int_of consts cs) ns h in
      let (k, at, is) = told_kind int_of (slice_get consts c.0) v.first v.here in
      let (l, there, short) = All-head (IsAt (λ (x : LLVMConstKind). IfSome (int_of x) (λ n. n < 2 ^ 8)) consts) c cs few in
      let same : int_of l ≡ Some v.first = ap int_of (same_Some l k (sym there ∙ at)) ∙ is in
      let small : v.first < 2 ^ 8 = subst (λ (o : Option ℕ). IfSome o (λ n. n < 2 ^ 8)) same short in
      let rest = ints_few cs v.rest (All-tail (IsAt (λ (x : LLVMConstKind). IfSome (int_of x) (λ n. n < 2 ^ 8)) consts) c cs few) v.others in
      subst (All (λ (n : ℕ). n < 2 ^ 8)) (sym v.is) (All-cons (λ (n : ℕ). n < 2 ^ 8) v.first v.rest small rest)

-- ---- what a module may hold

-- an integer of 8 bits is below 256
byte_small : (m : Module) (k : LLVMConstKind) (n : ℕ) → IsConstIn m k → slice_get m.types (const_type k).0 ≡ Some (T.Int 8) → int_of k ≡ Some n → n < 2 ^ 8
byte_small m (C.Int t v) n (w, at, fits) typed is =
    let width : w ≡ 8 = ap (λ (k : LLVMTypeKind). width_of (shape_of k)) (same_Some (T.Int w) (T.Int 8) (sym at ∙ typed)) in
    subst (λ (x : ℕ). x < 2 ^ 8) (same_Some v n is) (subst (λ (x : ℕ). v < 2 ^ x) width fits.0)
byte_small m (C.Filled fill t) n h typed is = cc
byte_small m (C.Bytes t bytes) n h typed is = cc
byte_small m (C.List t elements) n h typed is = cc
byte_small m (C.Splat t element) n h typed is = cc
byte_small m (C.Placeholder number t) n h typed is = cc

module _ (m : Module) (s : IsModule m) (t : LLVMType) where
  -- the elements of an array of integers of 8 bits are below 256 where they are integers
  short_each : (e : LLVMType) → slice_get m.types e.0 ≡ Some (T.Int 8) → (cs : List LLVMConst) → ((i : ℕ) (c : LLVMConst) → slice_get cs i ≡ Some c → IsElement m.consts e c) → FitBytes m.consts cs
  short_each e typed [] each = All-nil (IsAt (λ (x : LLVMConstKind). IfSome (int_of x) (λ n. n < 2 ^ 8)) m.consts)
  short_each e typed (c ∷ cs) each =
      let (k, at, is) = each 0 c refl in
      let over = s.consts c.0 k at in
      All-cons (IsAt (λ (x : LLVMConstKind). IfSome (int_of x) (λ n. n < 2 ^ 8)) m.consts) c cs (k, at, small k over (subst (λ (u : LLVMType). slice_get m.types u.0 ≡ Some (T.Int 8)) (sym is.0) typed) (int_of k) refl)
      (short_each e typed cs (λ i d there. each (suc i) d there))
    where
      small : (k : LLVMConstKind) → IsConstIn m k → slice_get m.types (const_type k).0 ≡ Some (T.Int 8) → (o : Option ℕ) → int_of k ≡ o → IfSome o (λ n. n < 2 ^ 8)
      small k over at None is = tt
      small k over at (Some n) is = byte_small m k n over at is

  module _ (cs : List LLVMConst) (h : IsListOf m.types m.consts m.structs t cs) where
    abbrev bytes : Option (List ℕ)
    bytes = if is_kind (is_byte_array m.types) m.types t then all_ints (told int_of m.consts cs) else None

    within : t.0 < length m.types
    within = slice_get_within m.types t.0 h.kind h.typed

    fill_is_own : (fill : Fill) → is_own_fill fill (shape_at m.types t) ≡ true
    fill_is_own fill = own_fill fill (shape_at m.types t) (ap (λ o. is_number (option_map_or shape_of o S.Void)) h.typed ∙ no_number m.structs h.kind h.parts h.fit)

    -- what the bytes of a list are made of
    record HasBytes (ns : List ℕ) : Type 0 where
      count : ℕ
      element : LLVMType
      array : h.kind ≡ T.Array count element
      byte : slice_get m.types element.0 ≡ Some (T.Int 8)
      ints : all_ints (told int_of m.consts cs) ≡ Some ns

    has_bytes : (ns : List ℕ) → bytes ≡ Some ns → HasBytes ns
    has_bytes ns e = by (is_kind (is_byte_array m.types) m.types t) refl e
      where
        by : (b : Bool) → is_kind (is_byte_array m.types) m.types t ≡ b → (if b then all_ints (told int_of m.consts cs) else None) ≡ Some ns → HasBytes ns
        by false is e = cc
        by true is e =
            let (count, element, array, byte) = array_of_bytes m.types h.kind (sym (ap (λ o. option_map_or (is_byte_array m.types) o false) h.typed) ∙ is) in
            record { count = count; element = element; array = array; byte = byte; ints = e }

    array_fit : (count : ℕ) (e : LLVMType) → h.kind ≡ T.Array count e → AreElements m.structs (T.Array count e) h.parts
    array_fit count e is = subst (λ (k : LLVMTypeKind). AreElements m.structs k h.parts) is h.fit

    -- an element of an array has its type
    of_element : (count : ℕ) (e : LLVMType) → h.kind ≡ T.Array count e → (i : ℕ) (c : LLVMConst) → slice_get cs i ≡ Some c → IsElement m.consts e c
    of_element count e is i c at =
        let lt = slice_get_within cs i c at in
        let u = item_there h.parts i (omega (arith, h.count, lt)) in
        subst (λ (v : LLVMType). IsElement m.consts v c) (within_at h.parts (λ (v : LLVMType). v ≡ e) (array_fit count e is).1 i u.0 u.1) (h.each i c u.0 at u.1)

    -- integers of an array of integers of 8 bits fit a byte
    pub short_ints : is_kind (is_byte_array m.types) m.types t ≡ true → FitBytes m.consts cs
    short_ints is =
        let (count, element, array, byte) = array_of_bytes m.types h.kind (sym (ap (λ o. option_map_or (is_byte_array m.types) o false) h.typed) ∙ is) in
        short_each element byte cs (of_element count element array)

    -- they are bytes, and not all 0 where the list is no zero
    bytes_in : (ns : List ℕ) → HasBytes ns → list_all (is_fill F.Zero) (told fill_of m.consts cs) ≡ false → IsConstIn m (C.Bytes t ns)
    bytes_in ns b none =
        let typed : slice_get m.types t.0 ≡ Some (T.Array b.count b.element) = h.typed ∙ ap Some b.array in
        let count : length ns ≡ b.count = ints_count m.consts cs ns b.ints ∙ h.count ∙ (array_fit b.count b.element b.array).0 in
        let few = ints_few m.consts cs ns (short_each b.element b.byte cs (of_element b.count b.element b.array)) b.ints in
        let array : slice_get m.types t.0 ≡ Some (T.Array (length ns) b.element) = typed ∙ ap (λ (n : ℕ). Some (T.Array n b.element)) (sym count) in
        (((b.element, array, b.byte), few), ap (λ (x : Bool). if x then C.Filled F.Zero t else C.Bytes t ns) (sym (ints_zero m.consts cs ns b.ints) ∙ none))

    -- where there is no common fill, the elements are not all zero
    no_zero : common_fill (told fill_of m.consts cs) ≡ None → list_all (is_fill F.Zero) (told fill_of m.consts cs) ≡ false
    no_zero e = by (list_all (is_fill F.Zero) (told fill_of m.consts cs)) refl e
      where
        others : Option Fill
        others = if list_all (is_fill F.Undef) (told fill_of m.consts cs) then Some F.Undef else if list_all (is_fill F.Poison) (told fill_of m.consts cs) then Some F.Poison else None

        by : (b : Bool) → list_all (is_fill F.Zero) (told fill_of m.consts cs) ≡ b → (if b then Some F.Zero else others) ≡ None → list_all (is_fill F.Zero) (told fill_of m.consts cs) ≡ false
        by true is e = cc
        by false is e = is

    pub list_form_in : IsConstIn m (list_form m.types m.consts t cs)
    list_form_in = by_fill (common_fill (told fill_of m.consts cs)) refl
      where
        by_bytes : (o : Option (List ℕ)) → bytes ≡ o → common_fill (told fill_of m.consts cs) ≡ None → IsConstIn m (option_map_or (C.Bytes t) o (C.List t cs))
        by_bytes None f e =
            (h, ap (λ (x : Option Fill). option_map_or (λ fill. C.Filled fill t) x (option_map_or (C.Bytes t) bytes (C.List t cs))) e ∙ ap (λ (x : Option (List ℕ)). option_map_or (C.Bytes t) x (C.List t cs)) f)
        by_bytes (Some ns) f e = bytes_in ns (has_bytes ns f) (no_zero e)

        by_fill : (o : Option Fill) → common_fill (told fill_of m.consts cs) ≡ o → IsConstIn m (option_map_or (λ fill. C.Filled fill t) o (option_map_or (C.Bytes t) bytes (C.List t cs)))
        by_fill None e = by_bytes bytes refl e
        by_fill (Some fill) e = (within, fill_is_own fill)

-- what a constant is made of is there, and that is a constant in its one form
pub one_form_in : (m : Module) (k : LLVMConstKind) → IsModule m → HasConstParts m k → IsConstIn m (one_form m k)
one_form_in m (C.Int t value) s h = h
one_form_in m (C.Placeholder number t) s h = h
one_form_in m (C.List t elements) s h = list_form_in m s t elements h
one_form_in m (C.Bytes t bytes) s h = by (list_all is_zero bytes) refl
  where
    own : (fill : Fill) → is_own_fill fill (shape_at m.types t) ≡ true
    own fill = own_fill fill (shape_at m.types t) (ap (λ o. is_number (option_map_or shape_of o S.Void)) h.0.1)

    by : (b : Bool) → list_all is_zero bytes ≡ b → IsConstIn m (if b then C.Filled F.Zero t else C.Bytes t bytes)
    by true e = (slice_get_within m.types t.0 _ h.0.1, own F.Zero)
    by false e = (h, ap (λ (b : Bool). if b then C.Filled F.Zero t else C.Bytes t bytes) e)
one_form_in m (C.Splat t element) s (count, e, at, lane) = by (option_and_then fill_of (slice_get m.consts element.0)) refl
  where
    own : (fill : Fill) → is_own_fill fill (shape_at m.types t) ≡ true
    own fill = own_fill fill (shape_at m.types t) (ap (λ o. is_number (option_map_or shape_of o S.Void)) at)

    by : (o : Option Fill) → option_and_then fill_of (slice_get m.consts element.0) ≡ o → IsConstIn m (option_map_or (λ fill. C.Filled fill t) o (C.Splat t element))
    by None is = ((count, e, at, lane), ap (λ (o : Option Fill). option_map_or (λ fill. C.Filled fill t) o (C.Splat t element)) is)
    by (Some fill) is = (slice_get_within m.types t.0 _ at, own fill)
one_form_in m (C.Filled fill t) s h = by (is_own_fill fill (shape_at m.types t)) refl
  where
    zero_only : (f : Fill) → is_own_fill f (shape_at m.types t) ≡ false → is_number (shape_at m.types t) ≡ true
    zero_only F.Zero e = not-false (is_number (shape_at m.types t)) e
    zero_only F.Undef e = absurd cc
    zero_only F.Poison e = absurd cc

    by : (b : Bool) → is_own_fill fill (shape_at m.types t) ≡ b → IsConstIn m (if b then C.Filled fill t else C.Int t 0)
    by true e = (h, e)
    by false e = let w = number_type (slice_get m.types t.0) (zero_only fill e) in (w.0, w.1, (pow_pos w.0, pow_pos 128))
