-- What tests of types find.
use Rattle.std.proofs.Common.{◌≡◌, ◌<◌, ◌≤◌, ◌^◌, ◌*◌, ◌/◌, ℕ, zero, suc, Bool, true, false, nat_eq, List, [], ◌∷◌, All, length, map, get_or, ap, sym, subst, ◌∙◌, refl, arith}
use Rattle.std.specs.Prelude.{IsTrue, ◌↔◌}
use Rattle.std.proofs.Math.Nat.{pow-le-pow_right}
use Rattle.kinds.specs.Types.{TypeTrees, FunctionType, shape, types_list, params_of, result_of}
use Rattle.kinds.specs.Fitting.{is_first_class, is_held}
use Rattle.kinds.specs.Held.{is_void, IsShallow, IsFirstClass, IsReturned, IsHeld, IsHeldResult, IsSignature, IsHeldSignature}
use Rattle.kinds.proofs.PartLaws.{throughout_shape}
use Rattle.kinds.proofs.HeldLaws.{first_class_throughout, returned_own, returned_if, returned_void, held_shape, held_result_own, held_result_if, held_result_void}
use Rattle.dialect_types.specs.declared.types.TypeHandle.{TypeHandle}
use Rattle.dialect_types.specs.declared.types.TypeKind.{TypeKind}
use Rattle.dialect_types.specs.declared.types.TypeKind.TheVariants.{Func}
use Rattle.dialect_types.specs.Trees.{TypeTree, type_at, types_at, type_tree, AllBelow, HasPartsBelow}
use Rattle.dialect_core.proofs.TestLemmas.{true_same, same_true, iff_trans}

-- ---- all items

-- a fact of all items of a list is one of all that f makes of them
pub map_at : {X Y : Type 0} (f : X → Y) (xs : List X) (k : ℕ) (d : X) (e : Y) → k < length xs → get_or (map f xs) k e ≡ f (get_or xs k d)
map_at f [] k d e l = absurd (omega arith)
map_at f (x ∷ xs) zero d e l = refl
map_at f (x ∷ xs) (suc k) d e l = map_at f xs k d e (omega arith)

pub map_length : {X Y : Type 0} (f : X → Y) (xs : List X) → length (map f xs) ≡ length xs
map_length f [] = refl
map_length f (x ∷ xs) = ap suc (map_length f xs)

pub all_map : {X Y : Type 0} (P : Y → Type 0) (f : X → Y) (xs : List X) → All (λ (x : X). P (f x)) xs → All P (map f xs)
all_map P f [] h k e l = absurd (omega arith)
all_map P f (x ∷ xs) h zero e l = h 0 x (omega arith)
all_map P f (x ∷ xs) h (suc k) e l = all_map P f xs (λ j d within. h (suc j) d (omega arith)) k e (omega arith)

pub map_all : {X Y : Type 0} (P : Y → Type 0) (f : X → Y) (xs : List X) → All P (map f xs) → All (λ (x : X). P (f x)) xs
map_all P f xs h k d l = subst P (map_at f xs k d (f d) l) (h k (f d) (omega (arith, map_length f xs)))

-- ---- lists of types

pub map_same_from : {X Y : Type 0} (f : X → Y) (xs ys : List X) → length xs ≡ length ys → ((k : ℕ) (d : X) → k < length xs → f (get_or xs k d) ≡ f (get_or ys k d)) → map f xs ≡ map f ys
map_same_from f [] [] few h = refl
map_same_from f [] (y ∷ ys) few h = absurd (omega arith)
map_same_from f (x ∷ xs) [] few h = absurd (omega arith)
map_same_from f (x ∷ xs) (y ∷ ys) few h =
    let e = h 0 x (omega arith) in
    let rest = map_same_from f xs ys (omega arith) (λ k d l. h (suc k) d (omega arith)) in
    cc

pub map_same_at : {X Y : Type 0} (f : X → Y) (xs ys : List X) (k : ℕ) (d : X) → map f xs ≡ map f ys → k < length xs → f (get_or xs k d) ≡ f (get_or ys k d)
map_same_at f xs ys k d same l =
    let few : length ys ≡ length xs = omega (arith, map_length f xs, map_length f ys, ap length same) in
    sym (map_at f xs k d (f d) l) ∙ ap (λ zs. get_or zs k (f d)) same ∙ map_at f ys k d (f d) (omega arith)

-- ---- types of values

-- a type of a store is one of values, and one that is translated, where its shape is that of one
pub first_class_told : (t : TypeTree) (b : Bool) → b ≡ is_first_class (shape t) → (is_first_class (shape t) ≡ true → IsFirstClass t) → IsTrue b ↔ IsFirstClass t
first_class_told t b is whole = (λ h. whole (sym is ∙ h), λ h. is ∙ throughout_shape is_first_class refl t (first_class_throughout t h))

pub held_told : (t : TypeTree) (b : Bool) → b ≡ is_held (shape t) → (is_held (shape t) ≡ true → IsHeld t) → IsTrue b ↔ IsHeld t
held_told t b is whole = (λ h. whole (sym is ∙ h), λ h. is ∙ held_shape t h)

-- what is not void is returned where it is of a value
pub returned_told : (t : TypeTree) (b : Bool) → is_void t ≡ false → (IsTrue b ↔ IsFirstClass t) → IsTrue b ↔ IsReturned t
returned_told t b own is = iff_trans is (λ h. returned_if t h, λ h. returned_own t h own)

pub void_returned : (t : TypeTree) (b : Bool) → b ≡ true → b ≡ is_void t → IsTrue b ↔ IsReturned t
void_returned t b is own = (λ h. returned_void t (sym own ∙ is), λ h. is)

pub held_result_told : (t : TypeTree) (b : Bool) → is_void t ≡ false → (IsTrue b ↔ IsHeld t) → IsTrue b ↔ IsHeldResult t
held_result_told t b own is = iff_trans is (λ h. held_result_if t h, λ h. held_result_own t h own)

pub void_held : (t : TypeTree) (b : Bool) → b ≡ true → b ≡ is_void t → IsTrue b ↔ IsHeldResult t
void_held t b is own = (λ h. held_result_void t (sym own ∙ is), λ h. is)

-- ---- function types

pub listed_types : (ts : List TypeTree) (xs : List TypeHandle) → types_list (types_at ts xs) ≡ map (type_at ts) xs
listed_types ts [] = refl
listed_types ts (x ∷ xs) = ap (λ (ys : List TypeTree). type_at ts x ∷ ys) (listed_types ts xs)

all_below : (n m : ℕ) (xs : List TypeHandle) → AllBelow n xs → n < m → All (λ (t : TypeHandle). t.0 < m) xs
all_below n m [] h more k d l = absurd (omega arith)
all_below n m (x ∷ xs) h more zero d l = omega (arith, h.0)
all_below n m (x ∷ xs) h more (suc k) d l = all_below n m xs h.1 more k d (omega arith)

-- what a function type takes is there
pub params_below : (n m : ℕ) (k : TypeKind) (r : TypeHandle) (ps xs : List TypeHandle) (v : Bool) → k ≡ Func r ps v → HasPartsBelow n k → n < m → xs ≡ ps → All (λ (t : TypeHandle). t.0 < m) xs
params_below n m k r ps xs v is h more are =
    let P : TypeKind → Type 0 = HasPartsBelow n in
    let parts : HasPartsBelow n (Func r ps v) = subst P is h in
    rw are (all_below n m ps parts.1 more)

module _ (ts : List TypeTree) (t : TypeTree) (k : TypeKind) (r : TypeHandle) (ps xs : List TypeHandle) (v : Bool) (is : k ≡ Func r ps v) (tree : t ≡ type_tree ts k) (are : xs ≡ ps) where
  tree_is : t ≡ type_tree ts (Func r ps v)
  tree_is = tree ∙ ap (type_tree ts) is

  all_params : (P : TypeTree → Type 0) → All (λ (x : TypeHandle). P (type_at ts x)) xs ↔ All P (types_list (types_at ts ps))
  all_params P = rw (are, listed_types) ((λ h k d l. all_map P (type_at ts) ps h k d l), (λ h k d l. map_all P (type_at ts) ps h k d l))

  -- the parts of a type are those of its tree
  of_parts : (P Q : TypeTree → Type 0) (u : TypeTree) (us : TypeTrees) (w : Bool) → t ≡ FunctionType u us w → P u → All Q (types_list us) → P (type_at ts r) × All (λ (x : TypeHandle). Q (type_at ts x)) xs
  of_parts P Q u us w same returns takes =
      let e = sym same ∙ tree_is in
      let R : List TypeTree → Type 0 = All Q in
      (subst P (ap result_of e) returns, (all_params Q).1 (subst R (ap params_of e) takes))

  pub signature_is : IsShallow t → (IsReturned (type_at ts r) × All (λ (x : TypeHandle). IsFirstClass (type_at ts x)) xs) ↔ IsSignature t
  signature_is shallow = (
    λ h. record { result = type_at ts r; params = types_at ts ps; variadic = v; is = tree_is; returns = h.0; takes = (all_params IsFirstClass).0 h.1; shallow = shallow },
    λ w. of_parts IsReturned IsFirstClass w.result w.params w.variadic w.is w.returns w.takes,
  )

  pub held_is : v ≡ false → IsShallow t → (IsHeldResult (type_at ts r) × All (λ (x : TypeHandle). IsHeld (type_at ts x)) xs) ↔ IsHeldSignature t
  held_is fixed shallow = (
    λ h. record { result = type_at ts r; params = types_at ts ps; is = tree_is ∙ ap (λ (v : Bool). FunctionType (type_at ts r) (types_at ts ps) v) fixed; returns = h.0; takes = (all_params IsHeld).0 h.1; shallow = shallow },
    λ w. of_parts IsHeldResult IsHeld w.result w.params false w.is w.returns w.takes,
  )

  pub params_are : map (type_at ts) xs ≡ params_of t
  params_are = rw (tree_is, listed_types, are) refl

-- ---- values

pub wide_fits : (value width : ℕ) → value < 2 ^ 64 → 64 ≤ width → value < 2 ^ width
wide_fits value width fits wide = let more : 2 ^ 64 ≤ 2 ^ width = pow-le-pow_right (omega arith) wide in omega arith

pub shifted_out : (value power : ℕ) → 0 < power → IsTrue (nat_eq (value / power) 0) ↔ value < power
shifted_out value power some = (λ h. below (true_same (nat_eq (value / power) 0) (value / power) 0 refl h), λ h. same_true (nat_eq (value / power) 0) (value / power) 0 refl (zero_of h))
  where
    below : value / power ≡ 0 → value < power
    below e = let p : power * (value / power) ≡ power * 0 = ap (λ (q : ℕ). power * q) e in omega arith

    by : (q : ℕ) → value / power ≡ q → value < power → q ≡ 0
    by zero e h = refl
    by (suc q) e h = let p : power * (value / power) ≡ power * suc q = ap (λ (q : ℕ). power * q) e in absurd (omega arith)

    zero_of : value < power → value / power ≡ 0
    zero_of h = by (value / power) refl h
