-- Each class is one of those that there are.
use Rattle.std.proofs.Common.{◌≡◌, ◌<◌, ℕ, zero, suc, Bool, true, false, cond, ◌&&◌, nat_lt, List, [], ◌∷◌, Option, Some, is_none, slice_get, unwrap_or, if◌then◌else◌, refl, sym, subst, arith}
use Rattle.std.specs.Str.{bytes_eq}
use Rattle.std.proofs.lemmas.Bool.{ltb-true}
use Rattle.ll_tokens.specs.declared.kinds.Kind.{Kind}
use Rattle.ll_tokens.specs.declared.kinds.Kind.TheVariants.{Word, MdName}
use Rattle.ll_classes.specs.declared.numbers.TheConstants.{CLASSES, INTTYPE, WORD, MDNAME}
use Rattle.ll_classes.specs.declared.words.Bucket.{Bucket}
use Rattle.ll_classes.specs.declared.words.Words.{Words}
use Rattle.ll_classes.specs.declared.words.Word as W
use Rattle.ll_classes.specs.Buckets.{Text, bucket_of}
use Rattle.ll_classes.specs.Names.{unescaped}
use Rattle.ll_classes.specs.Words.{Row, class_among, words_at, are_single, are_kept}
use Rattle.ll_classes.specs.Classes.{words, names, is_int_type, other_word, class_of}
use Rattle.ll_classes.proofs.WordLaws.{both, parts_of, looked_up}

other_below : (t : Text) → other_word t < CLASSES
other_below t = by (is_int_type t)
  where
    by : (b : Bool) → (if b then INTTYPE else WORD) < CLASSES
    by true = omega arith
    by false = omega arith

either_below : (b : Bool) (c n : ℕ) (x : Option ℕ) → c < CLASSES → unwrap_or x n < CLASSES → unwrap_or (cond b (Some c) x) n < CLASSES
either_below true c n x first second = first
either_below false c n x first second = second

among_below : (rows : List Row) (t : Text) (n : ℕ) → are_single rows ≡ true → n < CLASSES → unwrap_or (class_among rows t) n < CLASSES
among_below [] t n single small = small
among_below (r ∷ rs) t n single small =
    let two = both (nat_lt r.1 CLASSES && is_none (class_among rs r.0)) (are_single rs) single in
    let one = both (nat_lt r.1 CLASSES) (is_none (class_among rs r.0)) two.0 in
    either_below (bytes_eq t r.0) r.1 n (class_among rs t) (ltb-true r.1 CLASSES one.0) (among_below rs t n two.1 small)

-- the words of each bucket passed the check
single_at : (texts : List ℕ) (words : List W.Word) (n k : ℕ) (bs : List Bucket) → are_kept texts words n bs ≡ true → are_single (words_at texts words (slice_get bs k)) ≡ true
single_at texts words n k [] kept = refl
single_at texts words n zero (b ∷ bs) kept = (parts_of texts words n b bs kept).single
single_at texts words n (suc k) (b ∷ bs) kept = single_at texts words (suc n) k bs (parts_of texts words n b bs kept).behind

module _ (w : Words) where
  word_below : (t : Text) (n : ℕ) → n < CLASSES → unwrap_or (class_among (words w) t) n < CLASSES
  word_below t n small =
      subst (λ (o : Option ℕ). unwrap_or o n < CLASSES) (sym (looked_up w t))
      (among_below (words_at w.texts.now w.words.now (slice_get w.buckets.now (bucket_of t))) t n (single_at w.texts.now w.words.now 0 (bucket_of t) w.buckets.now (both (are_kept w.texts.now w.words.now 0 w.buckets.now) (are_single (names w)) w.right).0) small)

  pub class_below : (k : Kind) (t : Text) → class_of w k t < CLASSES
  unfolding class_of
  class_below Word t = word_below t (other_word t) (other_below t)
  class_below MdName t = among_below (names w) (unescaped t) MDNAME (both (are_kept w.texts.now w.words.now 0 w.buckets.now) (are_single (names w)) w.right).1 (omega arith)
  class_below _ t = omega arith
