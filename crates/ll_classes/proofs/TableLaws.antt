-- Each word of the table is found by its text, and what is found stands there.
use Rattle.std.proofs.Common.{◌≡◌, ◌≢◌, ◌<◌, ◌≤◌, ℕ, zero, suc, Bool, true, false, cond, ◌&&◌, nat_eq, nat_lt, List, [], ◌∷◌, ◌++◌, length, slice_index_or, All, Contains, Option, Some, None, is_none, unwrap_or, if◌then◌else◌, refl, sym, ap, ◌∙◌, arith}
use Rattle.std.specs.Str.{bytes_eq}
use Rattle.std.proofs.lemmas.Slice.Eq.{bytes_eq-Decides}
use Rattle.std.proofs.lemmas.Bool.{eqb-true}
use Rattle.std.proofs.lemmas.List.Elements.{All-append}
use Rattle.ll_tokens.specs.declared.kinds.Kind.TheVariants.{Word}
use Rattle.ll_classes.specs.declared.numbers.TheConstants.{CLASSES, INTTYPE, WORD}
use Rattle.ll_classes.specs.declared.words.Word as W
use Rattle.ll_classes.specs.declared.words.Bucket.{Bucket}
use Rattle.ll_classes.specs.declared.words.Words.{Words}
use Rattle.ll_classes.specs.Buckets.{Text, bucket_of}
use Rattle.ll_classes.specs.Words.{Row, class_among, bucket_words, words_of, are_single, stand_in, are_kept}
use Rattle.ll_classes.specs.Classes.{words, names, is_int_type, other_word, class_of}
use Rattle.ll_classes.proofs.WordLaws.{both, parts_of, class_among-append, other_bucket}

-- ---- each word is found

abbrev IsFound : List Row → Row → Type 0
IsFound rows r = class_among rows r.0 ≡ Some r.1

-- behind a word of another text
behind : (b : Bool) (s : Row) (rs : List Row) (r : Row) → bytes_eq r.0 s.0 ≡ b → is_none (class_among rs s.0) ≡ true → IsFound rs r → cond b (Some s.1) (class_among rs r.0) ≡ Some r.1
behind true s rs r e none is = let same : r.0 ≡ s.0 = (bytes_eq-Decides r.0 s.0).0 e in let two : is_none (Some r.1) ≡ true = ap (λ (o : Option ℕ). is_none o) (sym is ∙ ap (class_among rs) same) ∙ none in absurd cc
behind false s rs r e none is = is

single_found : (rows : List Row) → are_single rows ≡ true → (k : ℕ) (d : Row) → k < length rows → IsFound rows (slice_index_or rows k d)
single_found [] single k d within = absurd (omega arith)
single_found (r ∷ rs) single zero d within = ap (λ (b : Bool). cond b (Some r.1) (class_among rs r.0)) ((bytes_eq-Decides r.0 r.0).1 refl)
single_found (r ∷ rs) single (suc k) d within =
    let two = both (nat_lt r.1 CLASSES && is_none (class_among rs r.0)) (are_single rs) single in
    let one = both (nat_lt r.1 CLASSES) (is_none (class_among rs r.0)) two.0 in
    let s = slice_index_or rs k d in
    behind (bytes_eq s.0 r.0) r rs s refl one.1 (single_found rs two.1 k d (omega arith))

in_its_bucket : (n : ℕ) (rows : List Row) → stand_in n rows ≡ true → (k : ℕ) (d : Row) → k < length rows → bucket_of (slice_index_or rows k d).0 ≡ n
in_its_bucket n [] kept k d within = absurd (omega arith)
in_its_bucket n (r ∷ rs) kept zero d within = eqb-true (bucket_of r.0) n (both (nat_eq (bucket_of r.0) n) (stand_in n rs) kept).0
in_its_bucket n (r ∷ rs) kept (suc k) d within = in_its_bucket n rs (both (nat_eq (bucket_of r.0) n) (stand_in n rs) kept).1 k d (omega arith)

still : (b : Bool) (n : ℕ) (x y : Option ℕ) (c : ℕ) → (x ≡ Some c → y ≡ Some c) → cond b (Some n) x ≡ Some c → cond b (Some n) y ≡ Some c
still true n x y c rest is = is
still false n x y c rest is = rest is

found_first : (xs ys : List Row) (t : Text) (c : ℕ) → class_among xs t ≡ Some c → class_among (xs ++ ys) t ≡ Some c
found_first [] ys t c is = absurd cc
found_first (r ∷ xs) ys t c is = still (bytes_eq t r.0) r.1 (class_among xs t) (class_among (xs ++ ys) t) c (found_first xs ys t c) is

module _ (texts : List ℕ) (table : List W.Word) where
  abbrev IsFoundFrom : ℕ → List Row → Row → Type 0
  IsFoundFrom n rows r = IsFound rows r × (n ≤ bucket_of r.0)

  all_found : (n : ℕ) (bs : List Bucket) → are_kept texts table n bs ≡ true → All (IsFoundFrom n (words_of texts table bs)) (words_of texts table bs)
  all_found n [] kept = λ k d within. absurd (omega arith)
  all_found n (b ∷ bs) kept =
      let p = parts_of texts table n b bs kept in
      let here = bucket_words texts table b in
      let others = words_of texts table bs in
      All-append (IsFoundFrom n (here ++ others)) here others
      (λ k d within.
      let is : bucket_of (slice_index_or here k d).0 ≡ n = in_its_bucket n here p.here k d within in
      (found_first here others (slice_index_or here k d).0 (slice_index_or here k d).1 (single_found here p.single k d within), omega arith))
      (λ k d within.
      let rest = all_found (suc n) bs p.behind k d within in
      let le : suc n ≤ bucket_of (slice_index_or others k d).0 = rest.1 in
      (class_among-append here others (slice_index_or others k d).0 (other_bucket n here (slice_index_or others k d).0 p.here (λ e. omega arith)) ∙ rest.0, omega arith))

pub have_their_class : (w : Words) → All (λ (r : Row). class_of w Word r.0 ≡ r.1) (words w)
unfolding class_of
have_their_class w = λ k d within.
    let r = slice_index_or (words w) k d in
    ap (λ (o : Option ℕ). unwrap_or o (other_word r.0)) (all_found w.texts.now w.words.now 0 w.buckets.now (both (are_kept w.texts.now w.words.now 0 w.buckets.now) (are_single (names w)) w.right).0 k d within).0

-- ---- what is found stands there

module _ (t : Text) (c : ℕ) where
  more : (r : Row) (rs : List Row) → Contains rs (t, c) → Contains (r ∷ rs) (t, c)
  more r rs (k, within, is) = (suc k, omega arith, is)

  by_text : (b : Bool) (r : Row) (rs : List Row) → bytes_eq t r.0 ≡ b → (class_among rs t ≡ Some c → Contains rs (t, c)) → cond b (Some r.1) (class_among rs t) ≡ Some c → Contains (r ∷ rs) (t, c)
  by_text true r rs e rest is =
      let text : r.0 ≡ t = sym ((bytes_eq-Decides t r.0).0 e) in
      let class : r.1 ≡ c = cc in
      (0, omega arith, ap (λ (u : Text). (u, r.1)) text ∙ ap (λ (n : ℕ). (t, n)) class)
  by_text false r rs e rest is = more r rs (rest is)

  contains : (rows : List Row) → class_among rows t ≡ Some c → Contains rows (t, c)
  contains [] is = absurd cc
  contains (r ∷ rs) is = by_text (bytes_eq t r.0) r rs refl (contains rs) is

no_other : (b : Bool) → (if b then INTTYPE else WORD) ≢ INTTYPE → (if b then INTTYPE else WORD) ≢ WORD → ⊥
no_other true int word = int refl
no_other false int word = word refl

by_found : (rows : List Row) (t : Text) (o : Option ℕ) → class_among rows t ≡ o → unwrap_or o (other_word t) ≢ INTTYPE → unwrap_or o (other_word t) ≢ WORD → Contains rows (t, unwrap_or o (other_word t))
by_found rows t None e int word = absurd (no_other (is_int_type t) int word)
by_found rows t (Some c) e int word = contains t c rows e

pub stands_there : (w : Words) (t : Text) → class_of w Word t ≢ INTTYPE → class_of w Word t ≢ WORD → Contains (words w) (t, class_of w Word t)
unfolding class_of
stands_there w t = by_found (words w) t (class_among (words w) t) refl
