-- What `filter_map` makes of a list that an operation came into, or went from.
use Rattle.std.proofs.Common.{◌≡◌, ℕ, Bool, true, false, nat_eq, if◌then◌else◌, List, [], ◌∷◌, ◌++◌, Option, Some, None, slice_get, ap, sym, ◌∙◌, refl, arith}
use Rattle.std.specs.List.{filter_map, cons_option}
use Rattle.std.specs.Option.{option_map, option_and_then}
use Rattle.std.proofs.lemmas.List.{append-nil}
use Rattle.std.proofs.lemmas.Option.{none-some, same_Some}
use Rattle.dialect_types.specs.Trees.{TypeTree}
use Rattle.dialect_core.specs.declared.numbers.OpRef.{OpRef}
use Rattle.dialect_core.specs.declared.ops.OpData.{OpData}
use Rattle.dialect_core.specs.Lists.{put_after, leave_out, with_after, without}
use Rattle.dialect_core.specs.ContextData.{ContextData}
use Rattle.dialect_core.specs.Data.{DialectOp, Func, kind_of, op_of, op_at, func_of, func_in}
use Rattle.dialect_core.proofs.ChainLemmas.{same_op}
use Rattle.dialect_core.proofs.FilterLemmas.{filter_map-push}

-- f gives each operation something of its number
abbrev pub IsNumbered : {Y : Type 0} → (Y → ℕ) → (OpRef → Option Y) → Type 0
IsNumbered {Y = Y} number f = (o : OpRef) (y : Y) → f o ≡ Some y → number y ≡ o.0

-- what a map answers has the number of all that it answers
number_mapped : {X Y : Type 0} (number : Y → ℕ) (n : ℕ) (k : X → Y) (x : Option X) (y : Y) → ((x : X) → number (k x) ≡ n) → option_map k x ≡ Some y → number y ≡ n
number_mapped number n k None y is e = absurd (none-some y e)
number_mapped number n k (Some x) y is e = ap number (sym (same_Some (k x) y e)) ∙ is x

pub op_numbered : (ts : List TypeTree) (ops : List OpData) → IsNumbered (λ (x : DialectOp). x.number) (op_at ts ops)
op_numbered ts ops o y h = by (slice_get ops o.0) h
  where
    by : (x : Option OpData) → option_and_then (op_of ts o) x ≡ Some y → y.number ≡ o.0
    by None e = absurd (none-some y e)
    by (Some x) e = number_mapped (λ (x : DialectOp). x.number) o.0 _ (kind_of ts x.kind) y (λ k. refl) e

pub func_numbered : (ts : List TypeTree) (c : ContextData) → IsNumbered (λ (x : Func). x.number) (func_in ts c)
func_numbered ts c o y h = by (slice_get c.ops o.0) h
  where
    by : (x : Option OpData) → option_and_then (func_of ts c o) x ≡ Some y → y.number ≡ o.0
    by None e = absurd (none-some y e)
    by (Some x) e = number_mapped (λ (x : Func). x.number) o.0 _ x.symbol y (λ s. refl) e

-- ---- an operation of which f says nothing

pub last_quiet : {Y : Type 0} (f : OpRef → Option Y) (op : OpRef) → f op ≡ None → (xs : List OpRef) → filter_map f (xs ++ op ∷ []) ≡ filter_map f xs
last_quiet {Y} f op h xs = filter_map-push f xs op ∙ ap (λ (o : Option Y). filter_map f xs ++ cons_option o []) h ∙ append-nil (filter_map f xs)

pub first_quiet : {Y : Type 0} (f : OpRef → Option Y) (op : OpRef) → f op ≡ None → (xs : List OpRef) → filter_map f (op ∷ xs) ≡ filter_map f xs
first_quiet {Y} f op h xs = ap (λ (o : Option Y). cons_option o (filter_map f xs)) h

pub after_quiet : {Y : Type 0} (f : OpRef → Option Y) (op other : OpRef) → f op ≡ None → (xs : List OpRef) → filter_map f (with_after op other xs) ≡ filter_map f xs
after_quiet f op other h [] = refl
after_quiet {Y} f op other h (x ∷ xs) = by (nat_eq x.0 other.0) (after_quiet f op other h xs)
  where
    by : (t : Bool) → filter_map f (with_after op other xs) ≡ filter_map f xs → filter_map f (if t then x ∷ (op ∷ xs) else x ∷ with_after op other xs) ≡ cons_option (f x) (filter_map f xs)
    by true later = ap (λ (o : Option Y). cons_option (f x) (cons_option o (filter_map f xs))) h
    by false later = ap (cons_option (f x)) later

pub without_quiet : {Y : Type 0} (f : OpRef → Option Y) (op : OpRef) → f op ≡ None → (xs : List OpRef) → filter_map f (without op xs) ≡ filter_map f xs
without_quiet f op h [] = refl
without_quiet {Y} f op h (x ∷ xs) = by (nat_eq x.0 op.0) refl (without_quiet f op h xs)
  where
    by : (t : Bool) → nat_eq x.0 op.0 ≡ t → filter_map f (without op xs) ≡ filter_map f xs → filter_map f (if t then xs else x ∷ without op xs) ≡ cons_option (f x) (filter_map f xs)
    by true is later =
        let same : x ≡ op = same_op x op (grind (arith, is)) in
        sym (ap (λ (o : Option Y). cons_option o (filter_map f xs)) (ap f same ∙ h))
    by false is later = ap (cons_option (f x)) later

-- ---- an operation of which f says y

pub last_said : {Y : Type 0} (f : OpRef → Option Y) (op : OpRef) (y : Y) → f op ≡ Some y → (xs : List OpRef) → filter_map f (xs ++ op ∷ []) ≡ filter_map f xs ++ y ∷ []
last_said {Y} f op y h xs = filter_map-push f xs op ∙ ap (λ (o : Option Y). filter_map f xs ++ cons_option o []) h

pub first_said : {Y : Type 0} (f : OpRef → Option Y) (op : OpRef) (y : Y) → f op ≡ Some y → (xs : List OpRef) → filter_map f (op ∷ xs) ≡ y ∷ filter_map f xs
first_said {Y} f op y h xs = ap (λ (o : Option Y). cons_option o (filter_map f xs)) h

-- numbers that are equal, or are not, are so by the other's name
same_test : (m n k : ℕ) (t : Bool) → m ≡ n → nat_eq n k ≡ t → nat_eq m k ≡ t
same_test m n k t e is = ap (λ (j : ℕ). nat_eq j k) e ∙ is

pub after_said : {Y : Type 0} (number : Y → ℕ) (f : OpRef → Option Y) (op other : OpRef) (y z : Y) → IsNumbered number f → f op ≡ Some y → f other ≡ Some z → (xs : List OpRef) → filter_map f (with_after op other xs) ≡ put_after number y other.0 (filter_map f xs)
after_said number f op other y z numbered h k [] = refl
after_said {Y} number f op other y z numbered h k (x ∷ xs) = by (nat_eq x.0 other.0) refl (after_said number f op other y z numbered h k xs)
  where
    behind : nat_eq x.0 other.0 ≡ true → f x ≡ Some z → cons_option (f x) (cons_option (f op) (filter_map f xs)) ≡ put_after number y other.0 (cons_option (f x) (filter_map f xs))
    behind is e =
        ap (λ (o : Option Y). cons_option o (cons_option (f op) (filter_map f xs))) e
        ∙ ap (λ (o : Option Y). z ∷ cons_option o (filter_map f xs)) h
        ∙ sym (ap (λ (t : Bool). if t then z ∷ (y ∷ filter_map f xs) else z ∷ put_after number y other.0 (filter_map f xs)) (same_test (number z) x.0 other.0 true (numbered x z e) is))
        ∙ sym (ap (λ (o : Option Y). put_after number y other.0 (cons_option o (filter_map f xs))) e)

    past : nat_eq x.0 other.0 ≡ false → (o : Option Y) → f x ≡ o → cons_option o (put_after number y other.0 (filter_map f xs)) ≡ put_after number y other.0 (cons_option o (filter_map f xs))
    past is None e = refl
    past is (Some w) e = sym (ap (λ (t : Bool). if t then w ∷ (y ∷ filter_map f xs) else w ∷ put_after number y other.0 (filter_map f xs)) (same_test (number w) x.0 other.0 false (numbered x w e) is))

    by : (t : Bool) → nat_eq x.0 other.0 ≡ t → filter_map f (with_after op other xs) ≡ put_after number y other.0 (filter_map f xs)
        → filter_map f (if t then x ∷ (op ∷ xs) else x ∷ with_after op other xs) ≡ put_after number y other.0 (cons_option (f x) (filter_map f xs))
    by true is later = behind is (ap f (same_op x other (grind (arith, is))) ∙ k)
    by false is later = ap (cons_option (f x)) later ∙ past is (f x) refl

pub without_said : {Y : Type 0} (number : Y → ℕ) (f : OpRef → Option Y) (op : OpRef) (y : Y) → IsNumbered number f → f op ≡ Some y → (xs : List OpRef) → filter_map f (without op xs) ≡ leave_out number op.0 (filter_map f xs)
without_said number f op y numbered h [] = refl
without_said {Y} number f op y numbered h (x ∷ xs) = by (nat_eq x.0 op.0) refl (without_said number f op y numbered h xs)
  where
    here : nat_eq x.0 op.0 ≡ true → f x ≡ Some y → filter_map f xs ≡ leave_out number op.0 (cons_option (f x) (filter_map f xs))
    here is e =
        sym (ap (λ (t : Bool). if t then filter_map f xs else y ∷ leave_out number op.0 (filter_map f xs)) (same_test (number y) x.0 op.0 true (numbered x y e) is))
        ∙ sym (ap (λ (o : Option Y). leave_out number op.0 (cons_option o (filter_map f xs))) e)

    past : nat_eq x.0 op.0 ≡ false → (o : Option Y) → f x ≡ o → cons_option o (leave_out number op.0 (filter_map f xs)) ≡ leave_out number op.0 (cons_option o (filter_map f xs))
    past is None e = refl
    past is (Some w) e = sym (ap (λ (t : Bool). if t then filter_map f xs else w ∷ leave_out number op.0 (filter_map f xs)) (same_test (number w) x.0 op.0 false (numbered x w e) is))

    by : (t : Bool) → nat_eq x.0 op.0 ≡ t → filter_map f (without op xs) ≡ leave_out number op.0 (filter_map f xs)
        → filter_map f (if t then xs else x ∷ without op xs) ≡ leave_out number op.0 (cons_option (f x) (filter_map f xs))
    by true is later = here is (ap f (same_op x op (grind (arith, is))) ∙ h)
    by false is later = ap (cons_option (f x)) later ∙ past is (f x) refl
