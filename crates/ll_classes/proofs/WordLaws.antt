-- A word is found in the bucket of its text, and in no other.
use Rattle.std.proofs.Common.{◌≡◌, ◌<◌, ◌≢◌, ℕ, zero, suc, ◌+◌, Bool, true, false, cond, ◌&&◌, nat_eq, List, [], ◌∷◌, ◌++◌, length, get_or, drop, Option, Some, None, slice_get, refl, sym, ap, ◌∙◌, arith}
use Rattle.std.specs.Str.{bytes_eq}
use Rattle.std.proofs.lemmas.Slice.Eq.{bytes_eq-Decides}
use Rattle.std.proofs.lemmas.Bool.{eqb-true}
use Rattle.std.proofs.Math.Seq.{drop-cons}
use Rattle.ll_classes.specs.Buckets.{Text, bucket_of}
use Rattle.ll_classes.specs.Words.{Row, row_of, class_among, words_in, bucket_words, words_at, words_of, are_single, stand_in, are_kept}
use Rattle.ll_classes.specs.declared.words.Word.{Word}
use Rattle.ll_classes.specs.declared.words.Bucket.{Bucket}
use Rattle.ll_classes.specs.declared.words.Words.{Words}

pub both : (a b : Bool) → (a && b) ≡ true → (a ≡ true) × (b ≡ true)
both true true e = (refl, refl)
both true false e = absurd cc
both false b e = absurd cc

-- ---- going over words

module _ (texts : List ℕ) (ws : List Word) (i : ℕ) (d : Word) (t : Text) (within : i < length ws) where
  at_place : class_among (words_in texts (drop i ws)) t ≡ cond (bytes_eq t (row_of texts (get_or ws i d)).0) (Some (get_or ws i d).class) (class_among (words_in texts (drop (suc i) ws)) t)
  at_place = ap (λ (l : List Word). class_among (words_in texts l) t) (drop-cons ws i d within)

  pub found : bytes_eq t (row_of texts (get_or ws i d)).0 ≡ true → class_among (words_in texts (drop i ws)) t ≡ class_among (words_in texts ws) t → Some (get_or ws i d).class ≡ class_among (words_in texts ws) t
  found is so_far = ap (λ (b : Bool). cond b (Some (get_or ws i d).class) (class_among (words_in texts (drop (suc i) ws)) t)) (sym is) ∙ sym at_place ∙ so_far

  pub passed : bytes_eq t (row_of texts (get_or ws i d)).0 ≡ false → class_among (words_in texts (drop i ws)) t ≡ class_among (words_in texts ws) t → class_among (words_in texts (drop (suc i) ws)) t ≡ class_among (words_in texts ws) t
  passed is so_far = ap (λ (b : Bool). cond b (Some (get_or ws i d).class) (class_among (words_in texts (drop (suc i) ws)) t)) (sym is) ∙ sym at_place ∙ so_far

-- ---- buckets

skipped : (b : Bool) (n : ℕ) (x y z : Option ℕ) → (x ≡ None → y ≡ z) → cond b (Some n) x ≡ None → cond b (Some n) y ≡ z
skipped true n x y z rest none = absurd cc
skipped false n x y z rest none = rest none

-- among some that are others
pub class_among-append : (xs ys : List Row) (t : Text) → class_among xs t ≡ None → class_among (xs ++ ys) t ≡ class_among ys t
class_among-append [] ys t none = refl
class_among-append (r ∷ xs) ys t none = skipped (bytes_eq t r.0) r.1 (class_among xs t) (class_among (xs ++ ys) t) (class_among ys t) (class_among-append xs ys t) none

pub class_among-front : (xs ys : List Row) (t : Text) → class_among ys t ≡ None → class_among (xs ++ ys) t ≡ class_among xs t
class_among-front [] ys t none = none
class_among-front (r ∷ xs) ys t none = ap (cond (bytes_eq t r.0) (Some r.1)) (class_among-front xs ys t none)

differs : (b : Bool) (n : ℕ) (x : Option ℕ) → (b ≡ true → ⊥) → x ≡ None → cond b (Some n) x ≡ None
differs true n x other none = absurd (other refl)
differs false n x other none = none

-- the words of a bucket have no text of another
pub other_bucket : (n : ℕ) (rs : List Row) (t : Text) → stand_in n rs ≡ true → bucket_of t ≢ n → class_among rs t ≡ None
other_bucket n [] t kept other = refl
other_bucket n (r ∷ rs) t kept other =
    let parts = both (nat_eq (bucket_of r.0) n) (stand_in n rs) kept in
    differs (bytes_eq t r.0) r.1 (class_among rs t) (λ e. other (ap bucket_of ((bytes_eq-Decides t r.0).0 e) ∙ eqb-true (bucket_of r.0) n parts.0)) (other_bucket n rs t parts.1 other)

module _ (texts : List ℕ) (words : List Word) where
  pub record AreParts (n : ℕ) (b : Bucket) (bs : List Bucket) : Type 0 where
    pub here : stand_in n (bucket_words texts words b) ≡ true
    pub single : are_single (bucket_words texts words b) ≡ true
    pub behind : are_kept texts words (suc n) bs ≡ true

  pub parts_of : (n : ℕ) (b : Bucket) (bs : List Bucket) → are_kept texts words n (b ∷ bs) ≡ true → AreParts n b bs
  parts_of n b bs kept =
      let rows = bucket_words texts words b in
      let two = both (stand_in n rows && are_single rows) (are_kept texts words (suc n) bs) kept in
      let one = both (stand_in n rows) (are_single rows) two.0 in
      record { here = one.0; single = one.1; behind = two.1 }

  -- the buckets behind have no words of an earlier one
  later_buckets : (n : ℕ) (bs : List Bucket) (t : Text) → are_kept texts words n bs ≡ true → bucket_of t < n → class_among (words_of texts words bs) t ≡ None
  later_buckets n [] t kept less = refl
  later_buckets n (b ∷ bs) t kept less =
      let p = parts_of n b bs kept in
      class_among-append (bucket_words texts words b) (words_of texts words bs) t (other_bucket n (bucket_words texts words b) t p.here (λ e. omega arith)) ∙ later_buckets (suc n) bs t p.behind (omega arith)

  pub in_bucket : (n k : ℕ) (bs : List Bucket) (t : Text) → are_kept texts words n bs ≡ true → n + k ≡ bucket_of t → class_among (words_of texts words bs) t ≡ class_among (words_at texts words (slice_get bs k)) t
  in_bucket n k [] t kept is = refl
  in_bucket n zero (b ∷ bs) t kept is =
      let p = parts_of n b bs kept in
      class_among-front (bucket_words texts words b) (words_of texts words bs) t (later_buckets (suc n) bs t p.behind (omega arith))
  in_bucket n (suc k) (b ∷ bs) t kept is =
      let p = parts_of n b bs kept in
      class_among-append (bucket_words texts words b) (words_of texts words bs) t (other_bucket n (bucket_words texts words b) t p.here (λ e. omega arith)) ∙ in_bucket (suc n) k bs t p.behind (omega arith)

-- a text is looked up in its bucket
pub looked_up : (w : Words) (t : Text) → class_among (words_of w.texts.now w.words.now w.buckets.now) t ≡ class_among (words_at w.texts.now w.words.now (slice_get w.buckets.now (bucket_of t))) t
looked_up w t = in_bucket w.texts.now w.words.now 0 (bucket_of t) w.buckets.now t (both (are_kept w.texts.now w.words.now 0 w.buckets.now) (are_single (bucket_words w.texts.now w.words.now w.names)) w.right).0 (omega arith)
