-- What is asked of the parts of a type: from the type to its parts, and from one test to a weaker one.
use Rattle.std.proofs.Common.{nat_le, nat_lt, not, ◌^◌, ◌≡◌, ℕ, zero, suc, Bool, true, false, ◌&&◌, refl, List, [], ◌∷◌, Option, Some, None, All, slice_get, inl, inr, ◌⊎◌}
use Rattle.std.specs.Option.{option_or}
use Rattle.std.proofs.lemmas.List.Elements.{All-nil, All-cons, All-head, All-tail}
use Rattle.kinds.specs.declared.fitting.Shape.{Shape}
use Rattle.kinds.specs.declared.fitting.Shape.TheVariants as S
use Rattle.kinds.specs.declared.types.OtherType.{OtherType}
use Rattle.kinds.specs.Types.{TypeTree, VoidType, IntType, PointerType, FloatingType, RefusedType, ArrayType, VectorType, StructType, NamedType, FunctionType, TypeTrees, NoTypes, ThenType, shape, types_list, parts_of}
use Rattle.kinds.specs.Fitting.{is_first_class, is_held, is_field, is_array_of, is_vector_of, is_token, is_amx, is_made}
use Rattle.kinds.specs.Held.{throughout, each_throughout, refused_of, refused_in}
use Rattle.kinds.proofs.TypeLaws.{and_left, and_right}

abbrev Passes : (Shape → Bool) → TypeTree → Type 0
Passes p t = throughout p t ≡ true

-- ---- what a type may be made of is a type of a value

pub field_part : (s : Shape) → is_field s ≡ true → is_first_class s ≡ true
field_part s h = and_left (is_first_class s) (not (is_token s)) h

pub array_part : (n : ℕ) (s : Shape) → is_array_of n s ≡ true → is_first_class s ≡ true
array_part n s h = field_part s (and_right (nat_lt n (2 ^ 64)) (is_field s) (and_left (nat_lt n (2 ^ 64) && is_field s) (not (is_amx s)) h))

pub vector_part : (n : ℕ) (s : Shape) → is_vector_of n s ≡ true → is_first_class s ≡ true
vector_part n s h = array_part n s (and_right (nat_le 1 n && nat_lt n (2 ^ 32)) (is_array_of n s) (and_left (nat_le 1 n && nat_lt n (2 ^ 32) && is_array_of n s) (not (is_made s)) h))

-- ---- from a type to its parts

-- a type that passes throughout passes itself, where types with parts do
pub throughout_shape : (p : Shape → Bool) → p S.Made ≡ true → (t : TypeTree) → throughout p t ≡ true → p (shape t) ≡ true
throughout_shape p made (ArrayType n t) h = made
throughout_shape p made (VectorType k n t) h = made
throughout_shape p made (StructType l ts) h = made
throughout_shape p made t h = h

each_passes : (p : Shape → Bool) (ts : TypeTrees) → each_throughout p ts ≡ true → All (Passes p) (types_list ts)
each_passes p NoTypes h = All-nil (Passes p)
each_passes p (ThenType t ts) h =
    let front = and_left (is_field (shape t) && throughout p t) (each_throughout p ts) h in
    All-cons (Passes p) t (types_list ts) (and_right (is_field (shape t)) (throughout p t) front) (each_passes p ts (and_right (is_field (shape t) && throughout p t) (each_throughout p ts) h))

-- its parts pass throughout, where function types do not: a line for each kind with parts
pub parts_throughout : (p : Shape → Bool) → p S.Function ≡ false → (t : TypeTree) → throughout p t ≡ true → All (Passes p) (parts_of t)
parts_throughout p none (ArrayType n t) h = All-cons (Passes p) t [] (and_right (is_array_of n (shape t)) (throughout p t) h) (All-nil (Passes p))
parts_throughout p none (VectorType k n t) h = All-cons (Passes p) t [] (and_right (is_vector_of n (shape t)) (throughout p t) h) (All-nil (Passes p))
parts_throughout p none (StructType l ts) h = each_passes p ts h
parts_throughout p none (FunctionType r ps v) h = cc
parts_throughout p none t h = All-nil (Passes p)

and_both : (a b : Bool) → a ≡ true → b ≡ true → (a && b) ≡ true
and_both a b e f = cc

mutual
  -- what passes throughout passes a weaker test
  pub throughout_weaker : (p q : Shape → Bool) → ((s : Shape) → p s ≡ true → q s ≡ true) → (t : TypeTree) → throughout p t ≡ true → throughout q t ≡ true
  throughout_weaker p q f (ArrayType n t) h =
      and_both (is_array_of n (shape t)) (throughout q t) (and_left (is_array_of n (shape t)) (throughout p t) h) (throughout_weaker p q f t (and_right (is_array_of n (shape t)) (throughout p t) h))
  throughout_weaker p q f (VectorType k n t) h =
      and_both (is_vector_of n (shape t)) (throughout q t) (and_left (is_vector_of n (shape t)) (throughout p t) h) (throughout_weaker p q f t (and_right (is_vector_of n (shape t)) (throughout p t) h))
  throughout_weaker p q f (StructType l ts) h = each_weaker p q f ts h
  throughout_weaker p q f t h = f (shape t) h

  each_weaker : (p q : Shape → Bool) → ((s : Shape) → p s ≡ true → q s ≡ true) → (ts : TypeTrees) → each_throughout p ts ≡ true → each_throughout q ts ≡ true
  each_weaker p q f NoTypes h = refl
  each_weaker p q f (ThenType t ts) h =
      let front = and_left (is_field (shape t) && throughout p t) (each_throughout p ts) h in
      and_both (is_field (shape t) && throughout q t) (each_throughout q ts)
      (and_both (is_field (shape t)) (throughout q t) (and_left (is_field (shape t)) (throughout p t) front) (throughout_weaker p q f t (and_right (is_field (shape t)) (throughout p t) front)))
      (each_weaker p q f ts (and_right (is_field (shape t) && throughout p t) (each_throughout p ts) h))

-- ---- types for which the dialect has none

or_none_left : (a b : Option OtherType) → option_or a b ≡ None → a ≡ None
or_none_left None b e = refl
or_none_left (Some a) b e = cc

or_none_right : (a b : Option OtherType) → option_or a b ≡ None → b ≡ None
or_none_right None b e = e
or_none_right (Some a) b e = cc

pub or_some : (a b : Option OtherType) (x : OtherType) → option_or a b ≡ Some x → (a ≡ Some x) ⊎ (b ≡ Some x)
or_some None b x e = inr e
or_some (Some a) b x e = inl e

flat_held : (t : TypeTree) → refused_of t ≡ None → is_first_class (shape t) ≡ true → is_held (shape t) ≡ true
flat_held VoidType none h = h
flat_held (IntType w) none h = h
flat_held (PointerType s) none h = h
flat_held (FloatingType a) none h = refl
flat_held (RefusedType a) none h = cc
flat_held (ArrayType n t) none h = refl
flat_held (VectorType k n t) none h = refl
flat_held (StructType l ts) none h = refl
flat_held (NamedType n) none h = refl
flat_held (FunctionType r ps v) none h = h

mutual
  -- a type of values is translated where it holds none of these
  pub first_held : (t : TypeTree) → refused_of t ≡ None → throughout is_first_class t ≡ true → throughout is_held t ≡ true
  first_held (ArrayType n t) none h =
      and_both (is_array_of n (shape t)) (throughout is_held t) (and_left (is_array_of n (shape t)) (throughout is_first_class t) h) (first_held t none (and_right (is_array_of n (shape t)) (throughout is_first_class t) h))
  first_held (VectorType k n t) none h =
      and_both (is_vector_of n (shape t)) (throughout is_held t) (and_left (is_vector_of n (shape t)) (throughout is_first_class t) h) (first_held t none (and_right (is_vector_of n (shape t)) (throughout is_first_class t) h))
  first_held (StructType l ts) none h = each_held ts none h
  first_held (RefusedType a) none h = cc
  first_held (NamedType n) none h = refl
  first_held VoidType none h = h
  first_held (IntType w) none h = h
  first_held (PointerType s) none h = h
  first_held (FloatingType a) none h = refl
  first_held (FunctionType r ps v) none h = h

  each_held : (ts : TypeTrees) → refused_in ts ≡ None → each_throughout is_first_class ts ≡ true → each_throughout is_held ts ≡ true
  each_held NoTypes none h = refl
  each_held (ThenType t ts) none h =
      let front = and_left (is_field (shape t) && throughout is_first_class t) (each_throughout is_first_class ts) h in
      and_both (is_field (shape t) && throughout is_held t) (each_throughout is_held ts)
      (and_both (is_field (shape t)) (throughout is_held t) (and_left (is_field (shape t)) (throughout is_first_class t) front)
      (first_held t (or_none_left (refused_of t) (refused_in ts) none) (and_right (is_field (shape t)) (throughout is_first_class t) front)))
      (each_held ts (or_none_right (refused_of t) (refused_in ts) none) (and_right (is_field (shape t) && throughout is_first_class t) (each_throughout is_first_class ts) h))

pub All-both : (P Q : TypeTree → Type 0) (ts : List TypeTree) → All P ts → All Q ts → All (λ (t : TypeTree). P t × Q t) ts
All-both P Q [] a b = All-nil (λ (t : TypeTree). P t × Q t)
All-both P Q (t ∷ ts) a b = All-cons (λ (u : TypeTree). P u × Q u) t ts (All-head P t ts a, All-head Q t ts b) (All-both P Q ts (All-tail P t ts a) (All-tail Q t ts b))

all_at : (P : TypeTree → Type 0) (ts : List TypeTree) → All P ts → (i : ℕ) (t : TypeTree) → slice_get ts i ≡ Some t → P t
all_at P [] all i t at = cc
all_at P (u ∷ ts) all zero t at = let same : u ≡ t = (cc) in rw (← same) (All-head P u ts all)
all_at P (u ∷ ts) all (suc i) t at = all_at P ts (All-tail P u ts all) i t at
