-- Types that may be fields, one after another.
use Rattle.std.proofs.Common.{◌≡◌, ◌<◌, ℕ, zero, suc, Bool, true, false, List, [], ◌∷◌, All, length, get_or, refl, sym, ap, ◌∙◌, arith}
use Rattle.std.proofs.lemmas.Bool.{and_parts}
use Rattle.std.proofs.lemmas.List.Elements.{All-nil, All-cons, All-head, All-tail}
use Rattle.kinds.specs.Types.{TypeTree, shape}
use Rattle.kinds.specs.Fitting.{is_field}
use Rattle.llvm_core.specs.declared.numbers.LLVMType.{LLVMType}
use Rattle.llvm_core.specs.Module.{Module}
use Rattle.llvm_core.specs.Parts.{shape_at}
use Rattle.llvm_core.specs.Sound.{IsModule}
use Rattle.llvm_core.specs.Data.{trees_of, type_at, types_at}
use Rattle.llvm_core.proofs.WholeTypes.{shape_there}
use Rattle.ll_lines.specs.Views.{IsTypeIn}
use Rattle.ll_values.specs.Values.{are_fields}

-- each of the first n passes
abbrev pub PassTo : (LLVMType → Bool) → List LLVMType → ℕ → Type 0
PassTo p xs n = (k : ℕ) → k < n → p (get_or xs k (record { 0 = 0 })) ≡ true

pub pass_all : (p : LLVMType → Bool) (xs : List LLVMType) → PassTo p xs (length xs) → All (λ (t : LLVMType). p t ≡ true) xs
pass_all p [] h = All-nil (λ (t : LLVMType). p t ≡ true)
pass_all p (x ∷ xs) h = All-cons (λ (t : LLVMType). p t ≡ true) x xs (h 0 (omega arith)) (pass_all p xs (λ k lt. h (suc k) (omega arith)))

-- one that is no field, and the others whatever they are
pub no_field : (ts : List TypeTree) (xs : List LLVMType) (k : ℕ) → k < length xs → is_field (shape (type_at ts (get_or xs k (record { 0 = 0 })))) ≡ false → are_fields (types_at ts xs) ≡ false
no_field ts [] k lt h = absurd (omega arith)
no_field ts (x ∷ xs) zero lt h = rw h refl
no_field ts (x ∷ xs) (suc k) lt h = others ts x xs (no_field ts xs k (omega arith) h) (is_field (shape (type_at ts x))) refl
  where
    others : (ts : List TypeTree) (x : LLVMType) (xs : List LLVMType) → are_fields (types_at ts xs) ≡ false → (b : Bool) → is_field (shape (type_at ts x)) ≡ b → are_fields (types_at ts (x ∷ xs)) ≡ false
    others ts x xs e true is = rw is e
    others ts x xs e false is = rw is refl

-- the first of types is a field, or it is not
pub first_field : (ts : List TypeTree) (xs ys : List LLVMType) (x : LLVMType) → xs ≡ x ∷ ys → is_field (shape (type_at ts x)) ≡ true → are_fields (types_at ts ys) ≡ are_fields (types_at ts xs)
first_field ts xs ys x is h = rw (is, h) refl

pub first_no_field : (ts : List TypeTree) (xs ys : List LLVMType) (x : LLVMType) → xs ≡ x ∷ ys → is_field (shape (type_at ts x)) ≡ false → are_fields (types_at ts xs) ≡ false
first_no_field ts xs ys x is h = rw (is, h) refl

module _ (m : Module) (sound : IsModule m) where
  pub all_fields : (xs : List LLVMType) → All (IsTypeIn m) xs → All (λ (t : LLVMType). is_field (shape_at m.types t) ≡ true) xs → are_fields (types_at (trees_of m).types xs) ≡ true
  all_fields [] there h = refl
  all_fields (x ∷ xs) there h =
      let kept = shape_there m sound x (All-head (IsTypeIn m) x xs there) in
      let first : is_field (shape (type_at (trees_of m).types x)) ≡ true = ap is_field (sym kept) ∙ All-head (λ (t : LLVMType). is_field (shape_at m.types t) ≡ true) x xs h in
      rw first (all_fields xs (All-tail (IsTypeIn m) x xs there) (All-tail (λ (t : LLVMType). is_field (shape_at m.types t) ≡ true) x xs h))

  -- types that make fields may each be one
  pub fields_fit : (xs : List LLVMType) → All (IsTypeIn m) xs → are_fields (types_at (trees_of m).types xs) ≡ true → All (λ (t : LLVMType). is_field (shape_at m.types t) ≡ true) xs
  fields_fit [] there h = All-nil (λ (t : LLVMType). is_field (shape_at m.types t) ≡ true)
  fields_fit (x ∷ xs) there h =
      let kept = shape_there m sound x (All-head (IsTypeIn m) x xs there) in
      let both = and_parts (is_field (shape (type_at (trees_of m).types x))) (are_fields (types_at (trees_of m).types xs)) h in
      All-cons (λ (t : LLVMType). is_field (shape_at m.types t) ≡ true) x xs (ap is_field kept ∙ both.0) (fields_fit xs (All-tail (IsTypeIn m) x xs there) both.1)
