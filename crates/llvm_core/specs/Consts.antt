-- Constants as a module keeps them: what they are made of, and their one form.
use Rattle.std.specs.Prelude.{◌≡◌, ◌<◌, ◌^◌, ℕ, nat_eq, Bool, true, false, if◌then◌else◌, List, [], ◌∷◌, map, length, slice_get, Option, Some, None, IfSome, All}
use Rattle.std.specs.Option.{option_map, option_map_or, option_and_then}
use Rattle.std.specs.List.{find, list_all}
use Rattle.std.specs.Str.{bytes_eq}
use Rattle.kinds.specs.declared.fill.Fill.{Fill}
use Rattle.kinds.specs.declared.fill.Fill.TheVariants as F
use Rattle.kinds.specs.declared.types.VectorTypeKind.TheVariants as N
use Rattle.kinds.specs.Fill.{is_own_fill}
use Rattle.kinds.specs.Fitting.{width_of}
use Rattle.llvm_core.specs.declared.numbers.LLVMType.{LLVMType}
use Rattle.llvm_core.specs.declared.numbers.LLVMConst.{LLVMConst}
use Rattle.llvm_core.specs.declared.types.LLVMTypeKind.{LLVMTypeKind}
use Rattle.llvm_core.specs.declared.types.LLVMTypeKind.TheVariants as T
use Rattle.llvm_core.specs.declared.consts.LLVMConstKind.{LLVMConstKind}
use Rattle.llvm_core.specs.declared.consts.LLVMConstKind.TheVariants as C
use Rattle.llvm_core.specs.declared.structs.StructFields.{StructFields}
use Rattle.llvm_core.specs.declared.structs.StructData.{StructData}
use Rattle.llvm_core.specs.Module.{Module}
use Rattle.llvm_core.specs.Parts.{IsIntAt, shape_at, is_kind, const_type}

-- ---- what stands at a number

-- P holds of the constant of that number, which is there
abbrev pub IsAt : (LLVMConstKind → Type 0) → List LLVMConstKind → LLVMConst → Type 0
IsAt P consts c = (k : LLVMConstKind) × (slice_get consts c.0 ≡ Some k) × P k

-- a placeholder itself: none stands inside another constant, since no element is one
abbrev pub is_placeholder : LLVMConstKind → Bool
is_placeholder (C.Int type value) = false
is_placeholder (C.Filled fill type) = false
is_placeholder (C.Bytes type bytes) = false
is_placeholder (C.List type elements) = false
is_placeholder (C.Splat type element) = false
is_placeholder (C.Placeholder number type) = true

-- an element of that type may be put into a constant: it is there, and no placeholder
abbrev pub IsElement : List LLVMConstKind → LLVMType → LLVMConst → Type 0
IsElement consts t c = IsAt (λ k. (const_type k ≡ t) × (is_placeholder k ≡ false)) consts c

-- ---- the parts of a constant

-- the struct of that name, the first one where there are more
abbrev pub struct_named : List StructData → List ℕ → Option StructData
struct_named structs name = find (λ (s : StructData). bytes_eq s.name name) structs

-- it is there, and has fields of these types
abbrev pub HasFields : List StructData → List ℕ → List LLVMType → Type 0
HasFields structs name ts = (s : StructData) × (b : StructFields) × (struct_named structs name ≡ Some s) × (s.body ≡ Some b) × (b.types ≡ ts)

-- so many elements of one type, or one of the type of each field: what a constant of a type of that kind is a list of
abbrev pub AreElements : List StructData → LLVMTypeKind → List LLVMType → Type 0
AreElements structs T.Void ts = ⊥
AreElements structs (T.Int width) ts = ⊥
AreElements structs (T.Ptr space) ts = ⊥
AreElements structs (T.Floating of) ts = ⊥
AreElements structs (T.Other of) ts = ⊥
AreElements structs (T.Array count t) ts = (length ts ≡ count) × All (λ (u : LLVMType). u ≡ t) ts
AreElements structs (T.Vector N.Fixed count t) ts = (length ts ≡ count) × All (λ (u : LLVMType). u ≡ t) ts
AreElements structs (T.Vector N.Scalable count t) ts = ⊥
AreElements structs (T.Literal fields layout) ts = ts ≡ fields
AreElements structs (T.Named name) ts = HasFields structs name ts
AreElements structs (T.Function result params variadic) ts = ⊥

module _ (types : List LLVMTypeKind) (consts : List LLVMConstKind) (structs : List StructData) where
  -- the elements of a constant of the type t: each is there and no placeholder, and their types are what t asks
  pub record IsListOf (t : LLVMType) (elements : List LLVMConst) : Type 0 where
    pub kind : LLVMTypeKind
    pub parts : List LLVMType
    pub typed : slice_get types t.0 ≡ Some kind
    pub fit : AreElements structs kind parts
    pub count : length elements ≡ length parts
    pub each : (i : ℕ) (c : LLVMConst) (u : LLVMType) → slice_get elements i ≡ Some c → slice_get parts i ≡ Some u → IsElement consts u c

  -- t is the type of so many integers of 8 bits
  abbrev pub IsBytesType : LLVMType → (count : ℕ) → Type 0
  IsBytesType t count = (e : LLVMType) × (slice_get types t.0 ≡ Some (T.Array count e)) × (slice_get types e.0 ≡ Some (T.Int 8))

  -- each element of the scalable vector type t may be that constant
  abbrev pub IsLaneOf : LLVMType → LLVMConst → Type 0
  IsLaneOf t c = (count : ℕ) × (e : LLVMType) × (slice_get types t.0 ≡ Some (T.Vector N.Scalable count e)) × IsElement consts e c

  -- what a constant may be made of, whether that is its one form or not
  abbrev pub IsMadeOf : LLVMConstKind → Type 0
  IsMadeOf (C.Int t value) = (width : ℕ) × (slice_get types t.0 ≡ Some (T.Int width)) × IsIntAt width value
  IsMadeOf (C.Filled fill t) = t.0 < length types
  IsMadeOf (C.Bytes t bytes) = IsBytesType t (length bytes) × All (λ (b : ℕ). b < 2 ^ 8) bytes
  IsMadeOf (C.List t elements) = IsListOf t elements
  IsMadeOf (C.Splat t element) = IsLaneOf t element
  IsMadeOf (C.Placeholder number t) = t.0 < length types

-- ---- the one form

abbrev pub is_zero : ℕ → Bool
is_zero n = nat_eq n 0

-- zero, undef or poison, where a constant in its one form is that
abbrev pub fill_of : LLVMConstKind → Option Fill
fill_of (C.Int t value) = if is_zero value then Some F.Zero else None
fill_of (C.Filled fill t) = Some fill
fill_of (C.Bytes t bytes) = None
fill_of (C.List t elements) = None
fill_of (C.Splat t element) = None
fill_of (C.Placeholder number t) = None

abbrev pub same_fill : Fill → Fill → Bool
same_fill F.Zero F.Zero = true
same_fill F.Undef F.Undef = true
same_fill F.Poison F.Poison = true
same_fill _ _ = false

abbrev pub is_fill : Fill → Option Fill → Bool
is_fill fill o = option_map_or (same_fill fill) o false

-- zero where each is zero, and so where there is none; undef or poison where each is that
abbrev pub common_fill : List (Option Fill) → Option Fill
common_fill os =
    if list_all (is_fill F.Zero) os then Some F.Zero
    else if list_all (is_fill F.Undef) os then Some F.Undef
    else if list_all (is_fill F.Poison) os then Some F.Poison
    else None

-- the value of an integer
abbrev pub int_of : LLVMConstKind → Option ℕ
int_of (C.Int t value) = Some value
int_of (C.Filled fill t) = None
int_of (C.Bytes t bytes) = None
int_of (C.List t elements) = None
int_of (C.Splat t element) = None
int_of (C.Placeholder number t) = None

-- the values where all are integers
abbrev pub all_ints : List (Option ℕ) → Option (List ℕ)
all_ints [] = Some []
all_ints (o ∷ os) = option_and_then (λ n. option_map (λ ns. n ∷ ns) (all_ints os)) o

-- each of these is there, and fits a byte where it is an integer
abbrev pub FitBytes : List LLVMConstKind → List LLVMConst → Type 0
FitBytes consts cs = All (IsAt (λ k. IfSome (int_of k) (λ n. n < 2 ^ 8)) consts) cs

-- what f tells of each of these constants
abbrev pub told : {X : Type 0} → (LLVMConstKind → Option X) → List LLVMConstKind → List LLVMConst → List (Option X)
told f consts cs = map (λ (c : LLVMConst). option_and_then f (slice_get consts c.0)) cs

-- an array of integers of 8 bits
abbrev pub is_byte_array : List LLVMTypeKind → LLVMTypeKind → Bool
is_byte_array types T.Void = false
is_byte_array types (T.Int width) = false
is_byte_array types (T.Ptr space) = false
is_byte_array types (T.Floating of) = false
is_byte_array types (T.Other of) = false
is_byte_array types (T.Array count t) = nat_eq (width_of (shape_at types t)) 8
is_byte_array types (T.Vector kind count t) = false
is_byte_array types (T.Literal fields layout) = false
is_byte_array types (T.Named name) = false
is_byte_array types (T.Function result params variadic) = false

module _ (types : List LLVMTypeKind) (consts : List LLVMConstKind) where
  -- a list of only zeros, of only undef or of only poison is that of the list's type, another of integers of 8 bits in an array
  -- is their bytes
  abbrev pub list_form : LLVMType → List LLVMConst → LLVMConstKind
  list_form t cs =
      let bytes = if is_kind (is_byte_array types) types t then all_ints (told int_of consts cs) else None in
      option_map_or (λ fill. C.Filled fill t) (common_fill (told fill_of consts cs)) (option_map_or (C.Bytes t) bytes (C.List t cs))

  -- The one form of a constant: zero, undef or poison where each part is that, for the zero of an integer type the integer 0, for
  -- a list of bytes these.
  abbrev pub form_over : LLVMConstKind → LLVMConstKind
  form_over (C.Int t value) = C.Int t value
  form_over (C.Filled fill t) = if is_own_fill fill (shape_at types t) then C.Filled fill t else C.Int t 0
  form_over (C.Bytes t bytes) = if list_all is_zero bytes then C.Filled F.Zero t else C.Bytes t bytes
  form_over (C.List t elements) = list_form t elements
  form_over (C.Splat t element) = option_map_or (λ fill. C.Filled fill t) (option_and_then fill_of (slice_get consts element.0)) (C.Splat t element)
  form_over (C.Placeholder number t) = C.Placeholder number t

-- a constant of one form
abbrev pub IsConstOver : List LLVMTypeKind → List LLVMConstKind → List StructData → LLVMConstKind → Type 0
IsConstOver types consts structs (C.Int t value) = IsMadeOf types consts structs (C.Int t value)
IsConstOver types consts structs (C.Filled fill t) = (t.0 < length types) × (is_own_fill fill (shape_at types t) ≡ true)
IsConstOver types consts structs (C.Bytes t bytes) = IsMadeOf types consts structs (C.Bytes t bytes) × (form_over types consts (C.Bytes t bytes) ≡ C.Bytes t bytes)
IsConstOver types consts structs (C.List t elements) = IsListOf types consts structs t elements × (list_form types consts t elements ≡ C.List t elements)
IsConstOver types consts structs (C.Splat t element) = IsLaneOf types consts structs t element × (form_over types consts (C.Splat t element) ≡ C.Splat t element)
IsConstOver types consts structs (C.Placeholder number t) = t.0 < length types

-- ---- of a module

abbrev pub HasConstParts : Module → LLVMConstKind → Type 0
HasConstParts m k = IsMadeOf m.types m.consts m.structs k

abbrev pub one_form : Module → LLVMConstKind → LLVMConstKind
one_form m k = form_over m.types m.consts k

abbrev pub IsConstIn : Module → LLVMConstKind → Type 0
IsConstIn m k = IsConstOver m.types m.consts m.structs k

-- its parts have numbers below n
abbrev pub IsMadeBelow : ℕ → LLVMConstKind → Type 0
IsMadeBelow n (C.Int t value) = Unit {0}
IsMadeBelow n (C.Filled fill t) = Unit {0}
IsMadeBelow n (C.Bytes t bytes) = Unit {0}
IsMadeBelow n (C.List t elements) = All (λ (c : LLVMConst). c.0 < n) elements
IsMadeBelow n (C.Splat t element) = element.0 < n
IsMadeBelow n (C.Placeholder number t) = Unit {0}
