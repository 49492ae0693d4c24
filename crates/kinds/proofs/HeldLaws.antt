-- What follows for a type from where it stands. Beside the tests that answer them, only these laws look into the words of `Held`.
use Rattle.std.proofs.Common.{arith, ◌≡◌, ◌≤◌, ◌<◌, ◌^◌, ℕ, Bool, true, false, ◌||◌, refl, ap, ◌∙◌, Some, None, All}
use Rattle.kinds.specs.declared.fitting.Shape.{Shape}
use Rattle.kinds.specs.declared.fitting.Shape.TheVariants as S
use Rattle.kinds.specs.Types.{TypeTree, VoidType, IntType, PointerType, FloatingType, RefusedType, ArrayType, VectorType, StructType, NamedType, FunctionType, shape, laned, bits_of, depth, parts_of}
use Rattle.kinds.specs.Fitting.{is_value, is_first_class, is_held}
use Rattle.kinds.specs.Held.{is_void, own_type, too_deep, throughout, IsShallow, IsFirstClass, IsReturned, IsHeld, IsHeldResult, refused_of}
use Rattle.kinds.proofs.DepthLaws.{flat_shallow, parts_shallow}
use Rattle.kinds.proofs.PartLaws.{throughout_shape, parts_throughout, throughout_weaker, first_held, All-both}

-- ---- void

-- only void is void: a line for each kind of type
pub void_is : (t : TypeTree) → is_void t ≡ true → t ≡ VoidType
void_is VoidType e = refl
void_is (IntType w) e = cc
void_is (PointerType s) e = cc
void_is (FloatingType a) e = cc
void_is (RefusedType a) e = cc
void_is (ArrayType n t) e = cc
void_is (VectorType k n t) e = cc
void_is (StructType l ts) e = cc
void_is (NamedType n) e = cc
void_is (FunctionType r ps v) e = cc

pub void_if : (t : TypeTree) → t ≡ VoidType → is_void t ≡ true
void_if t e = cc

-- a type of no value has none for its own, any other is its own
pub own_none : (t : TypeTree) → own_type t ≡ None → t ≡ VoidType
own_none t e = by (is_void t) refl e
  where
    by : (v : Bool) → is_void t ≡ v → own_type t ≡ None → t ≡ VoidType
    by true is e = void_is t is
    by false is e = cc

pub own_some : (t u : TypeTree) → own_type t ≡ Some u → t ≡ u
own_some t u e = by (is_void t) refl e
  where
    by : (v : Bool) → is_void t ≡ v → own_type t ≡ Some u → t ≡ u
    by true is e = cc
    by false is e = cc

pub own_void : (t u : TypeTree) → own_type t ≡ Some u → is_void t ≡ false
own_void t u e = by (is_void t) refl e
  where
    by : (v : Bool) → is_void t ≡ v → own_type t ≡ Some u → is_void t ≡ false
    by true is e = cc
    by false is e = is

pub own_of : (t : TypeTree) → is_void t ≡ false → own_type t ≡ Some t
own_of t e = cc

-- a value has a type
pub value_own : (t : TypeTree) → is_value (shape t) ≡ true → is_void t ≡ false
value_own t e = by (shape t) refl e
  where
    by : (s : Shape) → shape t ≡ s → is_value s ≡ true → is_void t ≡ false
    by S.Void is e = cc
    by (S.Int w) is e = cc
    by (S.Pointer s) is e = cc
    by S.Other is e = cc
    by (S.Refused of) is e = cc
    by S.Made is e = cc
    by S.Named is e = cc
    by S.Function is e = cc

-- ---- first class

shape_value : (s : Shape) → is_first_class s ≡ true → is_value s ≡ true
shape_value S.Void e = cc
shape_value (S.Int w) e = refl
shape_value (S.Pointer s) e = refl
shape_value S.Other e = refl
shape_value (S.Refused of) e = refl
shape_value S.Made e = refl
shape_value S.Named e = refl
shape_value S.Function e = cc

pub first_class_value : (t : TypeTree) → IsFirstClass t → is_value (shape t) ≡ true
unfolding IsFirstClass
first_class_value t h = shape_value (shape t) (throughout_shape is_first_class refl t h.0)

pub first_class_own : (t : TypeTree) → IsFirstClass t → is_void t ≡ false
first_class_own t h = value_own t (first_class_value t h)

-- a value has a type, by its lanes
pub lane_own : (t : TypeTree) → is_value (laned t).lane ≡ true → is_void t ≡ false
lane_own (VectorType k n t) e = refl
lane_own t e = value_own t e

-- what is returned is of a value, unless it is void
pub returned_own : (t : TypeTree) → IsReturned t → is_void t ≡ false → IsFirstClass t
unfolding IsReturned IsFirstClass
returned_own t h e = (let k = h.0 in cc, h.1)

pub returned_if : (t : TypeTree) → IsFirstClass t → IsReturned t
unfolding IsReturned IsFirstClass
returned_if t h = (by (is_void t) refl, h.1)
  where
    by : (v : Bool) → is_void t ≡ v → (is_void t || throughout is_first_class t) ≡ true
    by true is = cc
    by false is = let k = h.0 in cc

-- void nests no deeper than is allowed
void_shallow : (t : TypeTree) → is_void t ≡ true → IsShallow t
void_shallow t e = ap (λ (u : TypeTree). too_deep (depth u)) (void_is t e) ∙ flat_shallow VoidType (omega arith)

pub returned_void : (t : TypeTree) → is_void t ≡ true → IsReturned t
unfolding IsReturned
returned_void t e = (cc, void_shallow t e)

-- told by its parts and its depth, and what that tells
pub first_class_by : (t : TypeTree) → throughout is_first_class t ≡ true → IsShallow t → IsFirstClass t
unfolding IsFirstClass
first_class_by t e h = (e, h)

pub first_class_throughout : (t : TypeTree) → IsFirstClass t → throughout is_first_class t ≡ true
unfolding IsFirstClass
first_class_throughout t h = h.0

pub first_class_shallow : (t : TypeTree) → IsFirstClass t → IsShallow t
unfolding IsFirstClass
first_class_shallow t h = h.1

pub returned_by : (t : TypeTree) → (is_void t || throughout is_first_class t) ≡ true → IsShallow t → IsReturned t
unfolding IsReturned
returned_by t e h = (e, h)

pub returned_throughout : (t : TypeTree) → IsReturned t → (is_void t || throughout is_first_class t) ≡ true
unfolding IsReturned
returned_throughout t h = h.0

pub returned_shallow : (t : TypeTree) → IsReturned t → IsShallow t
unfolding IsReturned
returned_shallow t h = h.1

-- what a type of a value is made of are types of values
pub parts_first_class : (t : TypeTree) → IsFirstClass t → All IsFirstClass (parts_of t)
unfolding IsFirstClass
parts_first_class t h = All-both (λ (u : TypeTree). throughout is_first_class u ≡ true) IsShallow (parts_of t) (parts_throughout is_first_class refl t h.0) (parts_shallow t h.1)

-- ---- translated

shape_first_class : (s : Shape) → is_held s ≡ true → is_first_class s ≡ true
shape_first_class S.Void e = cc
shape_first_class (S.Int w) e = grind arith
shape_first_class (S.Pointer s) e = e
shape_first_class S.Other e = refl
shape_first_class (S.Refused of) e = cc
shape_first_class S.Made e = refl
shape_first_class S.Named e = refl
shape_first_class S.Function e = cc

pub held_first_class : (t : TypeTree) → IsHeld t → IsFirstClass t
unfolding IsHeld IsFirstClass
held_first_class t h = (throughout_weaker is_held is_first_class shape_first_class t h.0, h.1)

pub held_value : (t : TypeTree) → IsHeld t → is_value (shape t) ≡ true
held_value t h = first_class_value t (held_first_class t h)

pub held_own : (t : TypeTree) → IsHeld t → is_void t ≡ false
held_own t h = value_own t (held_value t h)

pub held_result_own : (t : TypeTree) → IsHeldResult t → is_void t ≡ false → IsHeld t
unfolding IsHeldResult IsHeld
held_result_own t h e = (let k = h.0 in cc, h.1)

pub held_result_if : (t : TypeTree) → IsHeld t → IsHeldResult t
unfolding IsHeldResult IsHeld
held_result_if t h = (by (is_void t) refl, h.1)
  where
    by : (v : Bool) → is_void t ≡ v → (is_void t || throughout is_held t) ≡ true
    by true is = cc
    by false is = let k = h.0 in cc

pub held_result_void : (t : TypeTree) → is_void t ≡ true → IsHeldResult t
unfolding IsHeldResult
held_result_void t e = (cc, void_shallow t e)

pub held_by : (t : TypeTree) → throughout is_held t ≡ true → IsShallow t → IsHeld t
unfolding IsHeld
held_by t e h = (e, h)

pub held_shape : (t : TypeTree) → IsHeld t → is_held (shape t) ≡ true
unfolding IsHeld
held_shape t h = throughout_shape is_held refl t h.0

pub held_throughout : (t : TypeTree) → IsHeld t → throughout is_held t ≡ true
unfolding IsHeld
held_throughout t h = h.0

pub held_shallow : (t : TypeTree) → IsHeld t → IsShallow t
unfolding IsHeld
held_shallow t h = h.1

pub held_result_shallow : (t : TypeTree) → IsHeldResult t → IsShallow t
unfolding IsHeldResult
held_result_shallow t h = h.1

-- what a translated type is made of is translated
pub parts_held : (t : TypeTree) → IsHeld t → All IsHeld (parts_of t)
unfolding IsHeld
parts_held t h = All-both (λ (u : TypeTree). throughout is_held u ≡ true) IsShallow (parts_of t) (parts_throughout is_held refl t h.0) (parts_shallow t h.1)

pub held_result_returned : (t : TypeTree) → IsHeldResult t → IsReturned t
held_result_returned t h = by (is_void t) refl
  where
    by : (v : Bool) → is_void t ≡ v → IsReturned t
    by true is = returned_void t is
    by false is = returned_if t (held_first_class t (held_result_own t h is))

-- what is returned is translated, unless it is made of a type for which the dialect has none
pub returned_held : (t : TypeTree) → IsReturned t → refused_of t ≡ None → IsHeldResult t
returned_held t h none = by (is_void t) refl
  where
    by : (v : Bool) → is_void t ≡ v → IsHeldResult t
    by true is = held_result_void t is
    by false is = let own = returned_own t h is in held_result_if t (held_by t (first_held t none (first_class_throughout t own)) (first_class_shallow t own))

-- ---- bits

-- bits have a type
pub bits_own : (t : TypeTree) → is_void (bits_of t) ≡ false
bits_own (VectorType k n t) = refl
bits_own t = refl

-- ---- integers

pub held_int : (w : ℕ) → IsHeld (IntType w) → (1 ≤ w) × (w ≤ 2 ^ 23)
unfolding IsHeld
held_int w h = let k = h.0 in grind arith

pub int_held : (w : ℕ) → 1 ≤ w → w ≤ 2 ^ 23 → IsHeld (IntType w)
unfolding IsHeld
int_held w a b = (grind arith, flat_shallow (IntType w) (omega arith))

pub int_first_class : (w : ℕ) → 1 ≤ w → w ≤ 2 ^ 23 → IsFirstClass (IntType w)
unfolding IsFirstClass
int_first_class w a b = (grind arith, flat_shallow (IntType w) (omega arith))

pub first_class_int : (w : ℕ) → IsFirstClass (IntType w) → (1 ≤ w) × (w ≤ 2 ^ 23)
unfolding IsFirstClass
first_class_int w h = let k = h.0 in grind arith

pub first_class_pointer : (s : ℕ) → IsFirstClass (PointerType s) → s < 2 ^ 24
unfolding IsFirstClass
first_class_pointer s h = let k = h.0 in grind arith
