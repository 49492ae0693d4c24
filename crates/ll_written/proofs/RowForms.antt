-- The forms in which rows are written: what follows for their parts from the rules of the table.
use Rattle.std.proofs.Common.{◌≡◌, Bool, true, false, ◌&&◌, List, [], ◌∷◌, length, map, slice_get, Option, Some, None, sym, arith}
use Rattle.std.specs.List.{AllByRecursion}
use Rattle.std.specs.Prelude.{IfSome}
use Rattle.std.proofs.lemmas.Bool.{and_parts}
use Rattle.kinds.specs.declared.rules.Takes.{Takes}
use Rattle.kinds.specs.declared.rules.Takes.TheVariants as T
use Rattle.kinds.specs.declared.rules.Fit.{Fit}
use Rattle.kinds.specs.declared.rules.Fit.TheVariants as F
use Rattle.kinds.specs.Rules.{operand_count}
use Rattle.kinds.specs.Fitting.{fit_one, is_no_type, is_value_type, takes_fit}
use Rattle.kinds.specs.Types.{TypeTree, laned, same_tree}
use Rattle.kinds.proofs.TypeLaws.{tree_told}
use Rattle.ll_lines.specs.Lines.{Text, Typed}
use Rattle.ll_written.specs.Writable.{IsSayableType, IsTyped}

abbrev types : List Typed → List TypeTree
types os = map (λ (x : Typed). x.type) os

-- operands of these types fit, beside the type that is written
abbrev Fitting : Takes → Option TypeTree → List Typed → Bool
Fitting takes w os = takes_fit laned same_tree takes (length (types os)) w (slice_get (types os) 0) (slice_get (types os) 1) (slice_get (types os) 2)

-- ---- forms

pub data IsPair : Option TypeTree → List Typed → List Text → Type 0 where
  pair : (x y : Typed) → IsTyped x → IsTyped y → y.type ≡ x.type → IsPair None (x ∷ y ∷ []) []

pub data IsCast : Option TypeTree → List Typed → List Text → Type 0 where
  cast : (x : Typed) (τ : TypeTree) → IsTyped x → IsSayableType τ → IsCast (Some τ) (x ∷ []) []

pub data IsTwo : Option TypeTree → List Typed → List Text → Type 0 where
  two : (x y : Typed) → IsTyped x → IsTyped y → IsTwo None (x ∷ y ∷ []) []

pub data IsThree : Option TypeTree → List Typed → List Text → Type 0 where
  three : (x y z : Typed) → IsTyped x → IsTyped y → IsTyped z → IsThree None (x ∷ y ∷ z ∷ []) []

pub data IsOne : Option TypeTree → List Typed → List Text → Type 0 where
  one : (x : Typed) → IsTyped x → IsOne None (x ∷ []) []

pub data IsJump : Option TypeTree → List Typed → List Text → Type 0 where
  jump : (t : Text) → IsJump None [] (t ∷ [])

pub data IsBranch : Option TypeTree → List Typed → List Text → Type 0 where
  branch : (x : Typed) (t u : Text) → IsTyped x → IsBranch None (x ∷ []) (t ∷ u ∷ [])

pub data IsReturn : Option TypeTree → List Typed → List Text → Type 0 where
  no_value : IsReturn None [] []
  value : (x : Typed) → IsTyped x → IsReturn None (x ∷ []) []

pub data IsBare : Option TypeTree → List Typed → List Text → Type 0 where
  bare : IsBare None [] []

-- ---- what has which

pub pair_form : (by : Fit) (w : Option TypeTree) (os : List Typed) (ts : List Text) → (is_no_type laned same_tree w && Fitting (T.Two by F.First) w os) ≡ true → length os ≡ 2 → length ts ≡ 0 → AllByRecursion IsTyped os → IsPair w os ts
pair_form by None (x ∷ y ∷ []) [] fits count leads all =
    pair x y all.0 all.1.0 (sym (tree_told x.type y.type (and_parts (fit_one laned same_tree by None (Some x.type) (Some y.type) x.type) (same_tree x.type y.type) fits).1))
pair_form by (Some τ) os ts fits count leads all = absurd cc
pair_form by None [] ts fits count leads all = absurd (omega arith)
pair_form by None (x ∷ []) ts fits count leads all = absurd (omega arith)
pair_form by None (x ∷ y ∷ z ∷ os) ts fits count leads all = absurd (omega arith)
pair_form by None (x ∷ y ∷ []) (t ∷ ts) fits count leads all = absurd (omega arith)

pub cast_form : (by : Fit) (w : Option TypeTree) (os : List Typed) (ts : List Text) → (is_value_type laned same_tree w && Fitting (T.One by) w os) ≡ true → length os ≡ 1 → length ts ≡ 0 → IfSome w IsSayableType → AllByRecursion IsTyped os → IsCast w os ts
cast_form by (Some τ) (x ∷ []) [] fits count leads type all = cast x τ all.0 type
cast_form by None os ts fits count leads type all = absurd cc
cast_form by (Some τ) [] ts fits count leads type all = absurd (omega arith)
cast_form by (Some τ) (x ∷ y ∷ os) ts fits count leads type all = absurd (omega arith)
cast_form by (Some τ) (x ∷ []) (t ∷ ts) fits count leads type all = absurd (omega arith)

pub two_form : (w : Option TypeTree) (os : List Typed) (ts : List Text) (b : Bool) → (is_no_type laned same_tree w && b) ≡ true → length os ≡ 2 → length ts ≡ 0 → AllByRecursion IsTyped os → IsTwo w os ts
two_form None (x ∷ y ∷ []) [] b fits count leads all = two x y all.0 all.1.0
two_form (Some τ) os ts b fits count leads all = absurd cc
two_form None [] ts b fits count leads all = absurd (omega arith)
two_form None (x ∷ []) ts b fits count leads all = absurd (omega arith)
two_form None (x ∷ y ∷ z ∷ os) ts b fits count leads all = absurd (omega arith)
two_form None (x ∷ y ∷ []) (t ∷ ts) b fits count leads all = absurd (omega arith)

pub three_form : (w : Option TypeTree) (os : List Typed) (ts : List Text) (b : Bool) → (is_no_type laned same_tree w && b) ≡ true → length os ≡ 3 → length ts ≡ 0 → AllByRecursion IsTyped os → IsThree w os ts
three_form None (x ∷ y ∷ z ∷ []) [] b fits count leads all = three x y z all.0 all.1.0 all.1.1.0
three_form (Some τ) os ts b fits count leads all = absurd cc
three_form None [] ts b fits count leads all = absurd (omega arith)
three_form None (x ∷ []) ts b fits count leads all = absurd (omega arith)
three_form None (x ∷ y ∷ []) ts b fits count leads all = absurd (omega arith)
three_form None (x ∷ y ∷ z ∷ o ∷ os) ts b fits count leads all = absurd (omega arith)
three_form None (x ∷ y ∷ z ∷ []) (t ∷ ts) b fits count leads all = absurd (omega arith)

pub one_form : (w : Option TypeTree) (os : List Typed) (ts : List Text) (b : Bool) → (is_no_type laned same_tree w && b) ≡ true → length os ≡ 1 → length ts ≡ 0 → AllByRecursion IsTyped os → IsOne w os ts
one_form None (x ∷ []) [] b fits count leads all = one x all.0
one_form (Some τ) os ts b fits count leads all = absurd cc
one_form None [] ts b fits count leads all = absurd (omega arith)
one_form None (x ∷ y ∷ os) ts b fits count leads all = absurd (omega arith)
one_form None (x ∷ []) (t ∷ ts) b fits count leads all = absurd (omega arith)

pub jump_form : (w : Option TypeTree) (os : List Typed) (ts : List Text) (b : Bool) → (is_no_type laned same_tree w && b) ≡ true → length os ≡ 0 → length ts ≡ 1 → IsJump w os ts
jump_form None [] (t ∷ []) b fits count leads = jump t
jump_form (Some τ) os ts b fits count leads = absurd cc
jump_form None (x ∷ os) ts b fits count leads = absurd (omega arith)
jump_form None [] [] b fits count leads = absurd (omega arith)
jump_form None [] (t ∷ u ∷ ts) b fits count leads = absurd (omega arith)

pub branch_form : (w : Option TypeTree) (os : List Typed) (ts : List Text) (b : Bool) → (is_no_type laned same_tree w && b) ≡ true → length os ≡ 1 → length ts ≡ 2 → AllByRecursion IsTyped os → IsBranch w os ts
branch_form None (x ∷ []) (t ∷ u ∷ []) b fits count leads all = branch x t u all.0
branch_form (Some τ) os ts b fits count leads all = absurd cc
branch_form None [] ts b fits count leads all = absurd (omega arith)
branch_form None (x ∷ y ∷ os) ts b fits count leads all = absurd (omega arith)
branch_form None (x ∷ []) [] b fits count leads all = absurd (omega arith)
branch_form None (x ∷ []) (t ∷ []) b fits count leads all = absurd (omega arith)
branch_form None (x ∷ []) (t ∷ u ∷ v ∷ ts) b fits count leads all = absurd (omega arith)

pub return_form : (w : Option TypeTree) (os : List Typed) (ts : List Text) (b void : Bool) → (is_no_type laned same_tree w && b) ≡ true → length os ≡ operand_count T.Return void → length ts ≡ 0 → AllByRecursion IsTyped os → IsReturn w os ts
return_form None [] [] b void fits count leads all = no_value
return_form None (x ∷ []) [] b void fits count leads all = value x all.0
return_form (Some τ) os ts b void fits count leads all = absurd cc
return_form None os (t ∷ ts) b void fits count leads all = absurd (omega arith)
return_form None (x ∷ y ∷ os) ts b true fits count leads all = absurd (omega arith)
return_form None (x ∷ y ∷ os) ts b false fits count leads all = absurd (omega arith)

pub bare_form : (w : Option TypeTree) (os : List Typed) (ts : List Text) (b : Bool) → (is_no_type laned same_tree w && b) ≡ true → length os ≡ 0 → length ts ≡ 0 → IsBare w os ts
bare_form None [] [] b fits count leads = bare
bare_form (Some τ) os ts b fits count leads = absurd cc
bare_form None (x ∷ os) ts b fits count leads = absurd (omega arith)
bare_form None [] (t ∷ ts) b fits count leads = absurd (omega arith)
