-- Which token a test of a byte finds.
use Rattle.std.proofs.Common.{◌≡◌, ℕ, Bool, true, false, Option, Some, None, if◌then◌else◌, refl, sym, ap}
use Rattle.std.proofs.lemmas.Option.{none-some}
use Rattle.ll_tokens.specs.declared.kinds.Kind.{Kind}
use Rattle.ll_tokens.specs.Pieces.{Found, blank, token}

-- what follows from either branch, where it is the one
pub by_test : {A : Type 0} (t : Found) (c : Bool) (x y : Found) → (if c then x else y) ≡ t → (c ≡ true → x ≡ t → A) → (c ≡ false → y ≡ t → A) → A
by_test t true x y e first second = first refl e
by_test t false x y e first second = second refl e

len_of : Found → ℕ
len_of None = 0
len_of (Some p) = p.len

kind_of : Kind → Found → Kind
kind_of k None = k
kind_of k (Some p) = or_else k p.kind
  where
    or_else : Kind → Option Kind → Kind
    or_else k None = k
    or_else k (Some j) = j

-- a token has one kind and one length
pub same_len : (j k : Kind) (m n : ℕ) → token j m ≡ token k n → m ≡ n
unfolding len_of
same_len j k m n e = ap len_of e

pub same_kind : (j k : Kind) (m n : ℕ) → token j m ≡ token k n → k ≡ j
unfolding kind_of
same_kind j k m n e = sym (ap (kind_of j) e)

pub no_token : {A : Type 0} (k : Kind) (n : ℕ) → None ≡ token k n → A
no_token k n e = absurd (none-some _ e)

has_kind : Found → Bool
has_kind None = false
has_kind (Some p) = is_kind p.kind
  where
    is_kind : Option Kind → Bool
    is_kind None = false
    is_kind (Some j) = true

pub no_blank : {A : Type 0} (m : ℕ) (k : Kind) (n : ℕ) → blank m ≡ token k n → A
unfolding has_kind
no_blank m k n e = absurd (let f : false ≡ true = ap has_kind e in cc)
