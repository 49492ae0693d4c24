-- A list of constants in the one form whose elements are those that its type asks for is, in its one form, of the type, in the one form
-- and short; so is the list of the lanes of a vector.
use Rattle.std.proofs.Common.{◌≡◌, ◌<◌, ◌^◌, ℕ, zero, suc, Bool, true, false, not, if◌then◌else◌, List, [], Option, Some, None, All, length, refl, sym, ap, subst, ◌∙◌, arith}
use Rattle.std.specs.List.{list_all}
use Rattle.std.specs.Option.{option_map_or}
use Rattle.std.proofs.lemmas.Bool.{and_parts, and_from, eqb-true}
use Rattle.std.proofs.lemmas.List.Elements.{All-nil, All-cons}
use Rattle.std.proofs.lemmas.Option.{same_Some, none-some}
use Rattle.kinds.specs.declared.fill.Fill.{Fill}
use Rattle.kinds.specs.declared.fill.Fill.TheVariants as Fills
use Rattle.kinds.specs.declared.types.VectorTypeKind.TheVariants.{Fixed}
use Rattle.kinds.specs.Fill.{is_own_fill}
use Rattle.kinds.specs.Fitting.{is_number}
use Rattle.kinds.specs.Held.{width_in}
use Rattle.kinds.specs.Structs.{Struct}
use Rattle.kinds.specs.Types.{TypeTree, VoidType, IntType, PointerType, FloatingType, RefusedType, ArrayType, VectorType, StructType, NamedType, FunctionType, shape, same_tree}
use Rattle.kinds.proofs.TypeLaws.{tree_self, tree_told}
use Rattle.llvm_core.specs.Consts.{common_fill, is_fill, all_ints, is_zero}
use Rattle.llvm_core.specs.Data.{ConstTree, IntConst, FilledConst, BytesConst, ListConst, SplatConst, PlaceholderConst, ConstTrees, NoConsts, ThenConst, const_type, fill_in, int_in, told_of, is_byte_array, listed, formed}
use Rattle.llvm_core.specs.Elements.{is_placeholder, is_element, are_all, are_elements, copies, HasElements, HaveElements}
use Rattle.llvm_core.specs.Form.{IsFormConst, AreFormConsts, IsShortConst, AreShort}
use Rattle.llvm_core.proofs.OneForm.{first_value}
use Rattle.meaning.proofs.FormedLaws.{count_consts, HasByteWidth, HaveByteWidth, AsksFor}

-- ---- what is known of a constant of a type

-- it is in the one form, of the type, with its elements, and short
pub record IsGood (structs : List Struct) (type : TypeTree) (c : ConstTree) : Type 0 where
  pub typed : const_type c ≡ type
  pub plain : is_placeholder c ≡ false
  pub form : IsFormConst c
  pub short : IsShortConst c
  pub made : HasElements structs c

-- ---- types with elements

element_parts : (t : TypeTree) (c : ConstTree) → is_element t c ≡ true → const_type c ≡ t
element_parts t c h = tree_told (const_type c) t (and_parts (same c) (not (is_placeholder c)) h).0
  where
    same : ConstTree → Bool
    same c = same_tree (const_type c) t

eight : (t : TypeTree) → width_in t ≡ 8 → t ≡ IntType 8
eight (IntType w) e = ap IntType e
eight VoidType e = cc
eight (PointerType space) e = cc
eight (FloatingType of) e = cc
eight (RefusedType of) e = cc
eight (ArrayType count t) e = cc
eight (VectorType kind count t) e = cc
eight (StructType layout ts) e = cc
eight (NamedType name) e = cc
eight (FunctionType result params variadic) e = cc

-- an array of integers of 8 bits
byte_array : (t : TypeTree) → is_byte_array t ≡ true → (n : ℕ) × (t ≡ ArrayType n (IntType 8))
byte_array (ArrayType count t) e = (count, ap (ArrayType count) (eight t (eqb-true (width_in t) 8 e)))
byte_array (IntType w) e = absurd cc
byte_array VoidType e = absurd cc
byte_array (PointerType space) e = absurd cc
byte_array (FloatingType of) e = absurd cc
byte_array (RefusedType of) e = absurd cc
byte_array (VectorType kind count t) e = absurd cc
byte_array (StructType layout ts) e = absurd cc
byte_array (NamedType name) e = absurd cc
byte_array (FunctionType result params variadic) e = absurd cc

-- what has elements is no integer type
no_number : (structs : List Struct) (t : TypeTree) (cs : ConstTrees) → are_elements structs t cs ≡ true → is_number (shape t) ≡ false
no_number structs (IntType w) cs h = absurd cc
no_number structs VoidType cs h = refl
no_number structs (PointerType space) cs h = refl
no_number structs (FloatingType of) cs h = refl
no_number structs (RefusedType of) cs h = refl
no_number structs (ArrayType count t) cs h = refl
no_number structs (VectorType kind count t) cs h = refl
no_number structs (StructType layout ts) cs h = refl
no_number structs (NamedType name) cs h = refl
no_number structs (FunctionType result params variadic) cs h = refl

own_fill : (fill : Fill) (t : TypeTree) → is_number (shape t) ≡ false → is_own_fill fill (shape t) ≡ true
own_fill Fills.Zero t h = ap not h
own_fill Fills.Undef t h = refl
own_fill Fills.Poison t h = refl

-- ---- bytes

byte_width : (c : ConstTree) → const_type c ≡ IntType 8 → HasByteWidth c
byte_width (IntConst w v) e = cc
byte_width (FilledConst fill type) e = tt
byte_width (BytesConst bytes) e = tt
byte_width (ListConst type cs) e = tt
byte_width (SplatConst type c) e = tt
byte_width (PlaceholderConst n type) e = tt

-- so many integers of 8 bits
byte_elements : (n : ℕ) (cs : ConstTrees) → are_all n (IntType 8) cs ≡ true → (count_consts cs ≡ n) × HaveByteWidth cs
byte_elements zero NoConsts h = (refl, tt)
byte_elements zero (ThenConst c cs) h = absurd cc
byte_elements (suc n) NoConsts h = absurd cc
byte_elements (suc n) (ThenConst c cs) h =
    let parts = and_parts (is_element (IntType 8) c) (are_all n (IntType 8) cs) h in
    let rest = byte_elements n cs parts.1 in
    (let e = rest.0 in omega (arith, e), (byte_width c (element_parts (IntType 8) c parts.0), rest.1))

int_is : (c : ConstTree) (n : ℕ) → int_in c ≡ Some n → (w : ℕ) × (c ≡ IntConst w n)
int_is (IntConst w v) n e = (w, ap (IntConst w) (same_Some v n e))
int_is (FilledConst fill type) n e = absurd cc
int_is (BytesConst bytes) n e = absurd cc
int_is (ListConst type cs) n e = absurd cc
int_is (SplatConst type c) n e = absurd cc
int_is (PlaceholderConst k type) n e = absurd cc

-- the values of integers of 8 bits are bytes, and all 0 only where each integer is zero
pub record AreBytesOf (cs : ConstTrees) (bytes : List ℕ) : Type 0 where
  pub count : length bytes ≡ count_consts cs
  pub small : All (λ (b : ℕ). b < 2 ^ 8) bytes
  pub nothing : list_all is_zero bytes ≡ true → list_all (is_fill Fills.Zero) (told_of fill_in cs) ≡ true

bytes_of : (cs : ConstTrees) (bytes : List ℕ) → HaveByteWidth cs → AreFormConsts cs → all_ints (told_of int_in cs) ≡ Some bytes → AreBytesOf cs bytes
bytes_of NoConsts bytes width form e =
    let none : [] ≡ bytes = same_Some [] bytes e in
    subst (AreBytesOf NoConsts) none (record { count = refl; small = All-nil (λ (b : ℕ). b < 2 ^ 8); nothing = λ e. e })
bytes_of (ThenConst c cs) bytes width form e =
    let v = first_value (int_in c) (told_of int_in cs) bytes e in
    let one = int_is c v.first v.here in
    let rest = bytes_of cs v.rest width.1 form.1 v.others in
    let at_width : HasByteWidth (IntConst one.0 v.first) = subst HasByteWidth one.1 width.0 in
    let fits : IsFormConst (IntConst one.0 v.first) = subst IsFormConst one.1 form.0 in
    let small : v.first < 2 ^ 8 = subst (λ (w : ℕ). v.first < 2 ^ w) at_width fits.1.0 in
    subst (AreBytesOf (ThenConst c cs)) (sym v.is) (record {
      count = let e = rest.count in omega (arith, e);
      small = All-cons (λ (b : ℕ). b < 2 ^ 8) v.first v.rest small rest.small;
      nothing = λ all.
          let both = and_parts (is_zero v.first) (list_all is_zero v.rest) all in
          and_from (is_fill Fills.Zero (fill_in c)) (list_all (is_fill Fills.Zero) (told_of fill_in cs))
          (ap (λ (x : ConstTree). is_fill Fills.Zero (fill_in x)) one.1 ∙ ap (λ (b : Bool). is_fill Fills.Zero (if b then Some Fills.Zero else None)) both.0) (rest.nothing both.1);
    })

-- ---- the one form of a list

some_if : {X : Type 0} (b : Bool) (o : Option X) (x : X) → (if b then o else None) ≡ Some x → (b ≡ true) × (o ≡ Some x)
some_if true o x e = (refl, e)
some_if false o x e = absurd (none-some x e)

module _ (type : TypeTree) (cs : ConstTrees) where
  abbrev fill_told : Option Fill
  fill_told = common_fill (told_of fill_in cs)

  abbrev bytes_told : Option (List ℕ)
  bytes_told = if is_byte_array type then all_ints (told_of int_in cs) else None

  -- it is zero, undef or poison, or bytes, or itself
  listed_by : (P : ConstTree → Type 0) → ((fill : Fill) → P (FilledConst fill type)) → ((bytes : List ℕ) → bytes_told ≡ Some bytes → fill_told ≡ None → P (BytesConst bytes)) → (listed type cs ≡ ListConst type cs → P (ListConst type cs))
      → P (listed type cs)
  listed_by P filled as_bytes as_list = by fill_told refl
    where
      other : (b : Option (List ℕ)) → bytes_told ≡ b → fill_told ≡ None → P (option_map_or BytesConst b (ListConst type cs))
      other None is none = as_list (ap (λ (o : Option Fill). option_map_or (λ (fill : Fill). FilledConst fill type) o (option_map_or BytesConst bytes_told (ListConst type cs))) none ∙ ap (λ (o : Option (List ℕ)). option_map_or BytesConst o (ListConst type cs)) is)
      other (Some bytes) is none = as_bytes bytes is none

      by : (o : Option Fill) → fill_told ≡ o → P (option_map_or (λ (fill : Fill). FilledConst fill type) o (option_map_or BytesConst bytes_told (ListConst type cs)))
      by None e = other bytes_told refl e
      by (Some fill) e = filled fill

-- some list has that common fill
zero_common : (os : List (Option Fill)) → list_all (is_fill Fills.Zero) os ≡ true → common_fill os ≡ None → ⊥
zero_common os all none = none-some Fills.Zero (sym none ∙ ap (λ (b : Bool). if b then Some Fills.Zero else if list_all (is_fill Fills.Undef) os then Some Fills.Undef else if list_all (is_fill Fills.Poison) os then Some Fills.Poison else None) all)

-- bytes that are not all 0 are in the one form
bytes_formed : (bytes : List ℕ) → (list_all is_zero bytes ≡ true → ⊥) → formed (BytesConst bytes) ≡ BytesConst bytes
bytes_formed bytes some = by (list_all is_zero bytes) refl
  where
    by : (b : Bool) → list_all is_zero bytes ≡ b → (if b then FilledConst Fills.Zero (ArrayType (length bytes) (IntType 8)) else BytesConst bytes) ≡ BytesConst bytes
    by true e = absurd (some e)
    by false e = refl

-- the elements are those of the type
module _ (structs : List Struct) (type : TypeTree) (cs : ConstTrees) (fit : are_elements structs type cs ≡ true) where
  own : (fill : Fill) → is_own_fill fill (shape type) ≡ true
  own fill = own_fill fill type (no_number structs type cs fit)

  bytes_fit : is_byte_array type ≡ true → (type ≡ ArrayType (count_consts cs) (IntType 8)) × HaveByteWidth cs
  bytes_fit is =
      let array = byte_array type is in
      let all = byte_elements array.0 cs (subst (λ (t : TypeTree). are_elements structs t cs ≡ true) array.1 fit) in
      (array.1 ∙ ap (λ (n : ℕ). ArrayType n (IntType 8)) (sym all.0), all.1)

  pub asks : AsksFor type cs
  asks = record { made = own Fills.Zero; bytes = bytes_fit }

  -- the list in the one form
  pub good_list : AreFormConsts cs → AreShort cs → HaveElements structs cs → IsGood structs type (listed type cs)
  good_list form short made = listed_by type cs (IsGood structs type)
      (λ fill. record { typed = refl; plain = refl; form = own fill; short = tt; made = tt })
      (λ bytes is none.
      let parts = some_if (is_byte_array type) (all_ints (told_of int_in cs)) bytes is in
      let array = bytes_fit parts.0 in
      let are = bytes_of cs bytes array.1 form parts.1 in
      record {
        typed = ap (λ (n : ℕ). ArrayType n (IntType 8)) are.count ∙ sym array.0;
        plain = refl;
        form = (are.small, bytes_formed bytes (λ all. zero_common (told_of fill_in cs) (are.nothing all) none));
        short = tt;
        made = tt;
      })
      (λ is. record { typed = refl; plain = refl; form = (is, form); short = short; made = (fit, made) })

-- ---- copies

module _ (structs : List Struct) (type : TypeTree) (c : ConstTree) (good : IsGood structs type c) where
  pub good_element : is_element type c ≡ true
  good_element = and_from (same_tree (const_type c) type) (not (is_placeholder c)) (ap (λ (t : TypeTree). same_tree t type) good.typed ∙ tree_self type) (ap not good.plain)

  copies_fit : (n : ℕ) → are_all n type (copies n c) ≡ true
  copies_fit zero = refl
  copies_fit (suc n) = and_from (is_element type c) (are_all n type (copies n c)) good_element (copies_fit n)

  copies_form : (n : ℕ) → AreFormConsts (copies n c)
  copies_form zero = tt
  copies_form (suc n) = (good.form, copies_form n)

  copies_short : (n : ℕ) → AreShort (copies n c)
  copies_short zero = tt
  copies_short (suc n) = (good.short, copies_short n)

  copies_made : (n : ℕ) → HaveElements structs (copies n c)
  copies_made zero = tt
  copies_made (suc n) = (good.made, copies_made n)

  -- as many as the vector has lanes
  pub lanes_fit : (n : ℕ) → are_elements structs (VectorType Fixed n type) (copies n c) ≡ true
  lanes_fit n = copies_fit n

  pub good_lanes : (n : ℕ) → IsGood structs (VectorType Fixed n type) (listed (VectorType Fixed n type) (copies n c))
  good_lanes n = good_list structs (VectorType Fixed n type) (copies n c) (copies_fit n) (copies_form n) (copies_short n) (copies_made n)
