-- What is asked of the parts of a type of a value that a text says: a line for each kind with parts.
use Rattle.std.proofs.Common.{◌≡◌, ◌<◌, ◌^◌, ℕ, Bool, true, ◌&&◌, nat_le, nat_lt, not, [], All, refl, arith}
use Rattle.std.proofs.lemmas.Bool.Decides.{nat_tests}
use Rattle.std.proofs.lemmas.List.Elements.{All-nil, All-cons, All-head, All-tail}
use Rattle.kinds.specs.declared.fitting.Shape.{Shape}
use Rattle.kinds.specs.declared.types.VectorTypeKind.{VectorTypeKind}
use Rattle.kinds.specs.declared.types.StructLayout.{StructLayout}
use Rattle.kinds.specs.Types.{TypeTree, ArrayType, VectorType, StructType, TypeTrees, NoTypes, ThenType, shape, types_list}
use Rattle.kinds.specs.Fitting.{is_first_class, is_field, is_array_of, is_vector_of, is_amx, is_made}
use Rattle.kinds.specs.Held.{throughout, each_throughout, IsFirstClass}
use Rattle.kinds.proofs.TypeLaws.{and_left, and_right}
use Rattle.kinds.proofs.HeldLaws.{first_class_throughout, parts_first_class}
use Rattle.ll_values.specs.Values.{are_fields}
use Rattle.ll_written.specs.Writable.{has_good_names, have_good_names, IsSayableType}

-- ---- counts

array_count : (n : ℕ) (s : Shape) → is_array_of n s ≡ true → n < 2 ^ 64
array_count n s h = let k : nat_lt n (2 ^ 64) ≡ true = and_left (nat_lt n (2 ^ 64)) (is_field s) (and_left (nat_lt n (2 ^ 64) && is_field s) (not (is_amx s)) h) in grind (arith, nat_tests)

vector_count : (n : ℕ) (s : Shape) → is_vector_of n s ≡ true → n < 2 ^ 64
vector_count n s h = array_count n s (and_right (nat_le 1 n && nat_lt n (2 ^ 32)) (is_array_of n s) (and_left (nat_le 1 n && nat_lt n (2 ^ 32) && is_array_of n s) (not (is_made s)) h))

-- ---- arrays and vectors

pub record IsCounted (test : Bool) (n : ℕ) (t : TypeTree) : Type 0 where
  pub may : test ≡ true
  pub count : n < 2 ^ 64
  pub part : IsSayableType t

pub array_parts : (n : ℕ) (t : TypeTree) → IsSayableType (ArrayType n t) → IsCounted (is_array_of n (shape t)) n t
array_parts n t h =
    let may = and_left (is_array_of n (shape t)) (throughout is_first_class t) (first_class_throughout (ArrayType n t) h.type) in
    record { may = may; count = array_count n (shape t) may; part = record { type = All-head IsFirstClass t [] (parts_first_class (ArrayType n t) h.type); names = h.names } }

pub vector_parts : (k : VectorTypeKind) (n : ℕ) (t : TypeTree) → IsSayableType (VectorType k n t) → IsCounted (is_vector_of n (shape t)) n t
vector_parts k n t h =
    let may = and_left (is_vector_of n (shape t)) (throughout is_first_class t) (first_class_throughout (VectorType k n t) h.type) in
    record { may = may; count = vector_count n (shape t) may; part = record { type = All-head IsFirstClass t [] (parts_first_class (VectorType k n t) h.type); names = h.names } }

-- ---- structs

all_fields : (ts : TypeTrees) → each_throughout is_first_class ts ≡ true → are_fields ts ≡ true
all_fields NoTypes h = refl
all_fields (ThenType t ts) h =
    let first = and_left (is_field (shape t)) (throughout is_first_class t) (and_left (is_field (shape t) && throughout is_first_class t) (each_throughout is_first_class ts) h) in
    let others = all_fields ts (and_right (is_field (shape t) && throughout is_first_class t) (each_throughout is_first_class ts) h) in
    cc

sayable_fields : (ts : TypeTrees) → All IsFirstClass (types_list ts) → have_good_names ts ≡ true → All IsSayableType (types_list ts)
sayable_fields NoTypes h e = All-nil IsSayableType
sayable_fields (ThenType t ts) h e =
    let first : IsSayableType t = record { type = All-head IsFirstClass t (types_list ts) h; names = and_left (has_good_names t) (have_good_names ts) e } in
    All-cons IsSayableType t (types_list ts) first (sayable_fields ts (All-tail IsFirstClass t (types_list ts) h) (and_right (has_good_names t) (have_good_names ts) e))

pub record AreFields (ts : TypeTrees) : Type 0 where
  pub may : are_fields ts ≡ true
  pub parts : All IsSayableType (types_list ts)

pub struct_parts : (l : StructLayout) (ts : TypeTrees) → IsSayableType (StructType l ts) → AreFields ts
struct_parts l ts h = record { may = all_fields ts (first_class_throughout (StructType l ts) h.type); parts = sayable_fields ts (parts_first_class (StructType l ts) h.type) h.names }
