-- What the table says of the types of operands it says of the values that have those types: whether a row fits, and the
-- type of its result.
use Rattle.std.proofs.Common.{ℕ, zero, suc, ◌≡◌, refl, ap, ◌∙◌, Bool, true, false, List, [], ◌∷◌, Option, Some, None, All, length, slice_get, if◌then◌else◌}
use Rattle.std.specs.Prelude.{IfSome, unwrap_or}
use Rattle.std.proofs.lemmas.List.Elements.{All-nil, All-cons, All-head, All-tail}
use Rattle.kinds.specs.declared.op.Op.{Op}
use Rattle.kinds.specs.declared.rules.Gives.{Gives}
use Rattle.kinds.specs.declared.rules.Gives.TheVariants as G
use Rattle.kinds.specs.Types.{TypeTree, VoidType, laned, bits_of, same_tree}
use Rattle.kinds.specs.Held.{is_void, own_type, IsFirstClass}
use Rattle.kinds.specs.Table.{rule_of}
use Rattle.kinds.specs.Fitting.{is_no_type, is_value_type, is_written, takes_fit}
use Rattle.kinds.specs.Typing.{fits_trees, typed, given, written_for}
use Rattle.kinds.proofs.TypeLaws.{and_left}
use Rattle.kinds.proofs.HeldLaws.{own_of, lane_own, bits_own, first_class_own}
use Rattle.dialect_core.specs.Rules as R
use Rattle.dialect_core.specs.Rules.{Typing, type_nth, row_fits, row_result}
use Rattle.dialect_core.specs.declared.ops.Value.{Value}
use Rattle.meaning.specs.Pairs.{Matched}
use Rattle.meaning.proofs.MatchedLaws.{matched_length}

-- ---- the type of a result

-- it is there for a type of a value
pub first_class_is_own : (t : TypeTree) → IsFirstClass t → own_type t ≡ Some t
first_class_is_own t h = own_of t (first_class_own t h)

-- what holds of each type but void holds of it
pub if_own : (P : TypeTree → Type 0) (t : TypeTree) → (is_void t ≡ false → P t) → IfSome (own_type t) P
if_own P t h = by (is_void t) refl
  where
    by : (v : Bool) → is_void t ≡ v → IfSome (if v then None else Some t) P
    by true is = tt
    by false is = h is

-- ---- the words of what a row gives

none_from : (w : Option TypeTree) → is_no_type laned same_tree w ≡ true → None ≡ w
none_from None h = refl
none_from (Some t) h = cc

first_class_or_none : (a : Option TypeTree) → IfSome a IsFirstClass → own_type (unwrap_or a VoidType) ≡ a
first_class_or_none None h = refl
first_class_or_none (Some t) h = first_class_is_own t h

value_or_none : (w : Option TypeTree) → is_value_type laned same_tree w ≡ true → own_type (unwrap_or w VoidType) ≡ w
value_or_none None h = refl
value_or_none (Some t) h = own_of t (lane_own t h)

-- a result has the type that is given, and none where that is none
given_from : (k : Gives) (w a b : Option TypeTree) → is_written laned same_tree k w ≡ true → IfSome a IsFirstClass → IfSome b IsFirstClass → own_type (unwrap_or (given k w a b) VoidType) ≡ given k w a b
given_from G.Nothing w a b h f s = refl
given_from G.First w a b h f s = first_class_or_none a f
given_from G.Second w a b h f s = first_class_or_none b s
given_from G.Written w a b h f s = value_or_none w h
given_from G.Bits w None b h f s = refl
given_from G.Bits w (Some t) b h f s = own_of (bits_of t) (bits_own t)

-- the type that is written is that of the result, where it is written
written_from : (k : Gives) (w a b : Option TypeTree) → is_written laned same_tree k w ≡ true → written_for k (given k w a b) ≡ w
written_from G.Nothing w a b h = none_from w h
written_from G.First w a b h = none_from w h
written_from G.Second w a b h = none_from w h
written_from G.Written w a b h = refl
written_from G.Bits w a b h = none_from w h

first_class_nth : (ts : List TypeTree) (i : ℕ) → All IsFirstClass ts → IfSome (slice_get ts i) IsFirstClass
first_class_nth [] i h = tt
first_class_nth (t ∷ ts) zero h = All-head IsFirstClass t ts h
first_class_nth (t ∷ ts) (suc i) h = first_class_nth ts i (All-tail IsFirstClass t ts h)

-- ---- values that have types

module _ (types : Typing) where
  -- the values have these types, one by one
  abbrev pub HaveTypes : List TypeTree → List Value → Type 0
  HaveTypes ts vs = Matched (λ (t : TypeTree) (v : Value). types v ≡ Some t) ts vs

  nth_same : (ts : List TypeTree) (vs : List Value) → HaveTypes ts vs → (i : ℕ) → type_nth types vs i ≡ slice_get ts i
  nth_same [] [] h i = refl
  nth_same [] (v ∷ vs) h i = elim h [ ]
  nth_same (t ∷ ts) [] h i = elim h [ ]
  nth_same (t ∷ ts) (v ∷ vs) h zero = h.0
  nth_same (t ∷ ts) (v ∷ vs) h (suc i) = nth_same ts vs h.1 i

  pub first_class : (ts : List TypeTree) (vs : List Value) → HaveTypes ts vs → All IsFirstClass ts → All (R.IsFirstClassBy types) vs
  first_class [] [] h all = All-nil _
  first_class [] (v ∷ vs) h all = elim h [ ]
  first_class (t ∷ ts) [] h all = elim h [ ]
  first_class (t ∷ ts) (v ∷ vs) h all = All-cons (R.IsFirstClassBy types) v vs (t, h.0, All-head IsFirstClass t ts all) (first_class ts vs h.1 (All-tail IsFirstClass t ts all))

  pub all_typed : (type : TypeTree) (ts : List TypeTree) (vs : List Value) → HaveTypes ts vs → All (λ (t : TypeTree). t ≡ type) ts → All (λ (v : Value). types v ≡ Some type) vs
  all_typed type [] [] h are = All-nil _
  all_typed type [] (v ∷ vs) h are = elim h [ ]
  all_typed type (t ∷ ts) [] h are = elim h [ ]
  all_typed type (t ∷ ts) (v ∷ vs) h are =
      All-cons (λ (w : Value). types w ≡ Some type) v vs (h.0 ∙ ap Some (All-head (λ (x : TypeTree). x ≡ type) t ts are)) (all_typed type ts vs h.1 (All-tail (λ (x : TypeTree). x ≡ type) t ts are))

  -- a row of operands of these types, and of values that have them
  module _ (op : Op) (w : Option TypeTree) (ts : List TypeTree) (vs : List Value) (have : HaveTypes ts vs) (fits : fits_trees op w ts ≡ true) where
    abbrev k : Gives
    k = (rule_of op).gives

    written : is_written laned same_tree k w ≡ true
    written = and_left (is_written laned same_tree k w) (takes_fit laned same_tree (rule_of op).takes (length ts) w (slice_get ts 0) (slice_get ts 1) (slice_get ts 2)) fits

    gives : typed op w ts ≡ given k w (slice_get ts 0) (slice_get ts 1)
    gives = ap (λ (t : Bool). if t then given k w (slice_get ts 0) (slice_get ts 1) else None) fits

    module _ (type : TypeTree) (own : Option TypeTree) (values : All IsFirstClass ts) (is : type ≡ unwrap_or (typed op w ts) VoidType) (from : own ≡ own_type type) where
      own_is : own ≡ given k w (slice_get ts 0) (slice_get ts 1)
      own_is =
          from ∙ ap own_type (is ∙ ap (λ (o : Option TypeTree). unwrap_or o VoidType) gives)
          ∙ given_from k w (slice_get ts 0) (slice_get ts 1) written (first_class_nth ts 0 values) (first_class_nth ts 1 values)

      written_is : written_for k own ≡ w
      written_is = ap (written_for k) own_is ∙ written_from k w (slice_get ts 0) (slice_get ts 1) written

      pub values_fit : row_fits types op own vs ≡ true
      values_fit = rw (written_is, nth_same ts vs have 0, nth_same ts vs have 1, nth_same ts vs have 2, matched_length (λ (t : TypeTree) (v : Value). types v ≡ Some t) ts vs have) fits

      pub values_give : own ≡ row_result types op own vs
      values_give = rw (written_is, nth_same ts vs have 0, nth_same ts vs have 1) own_is
