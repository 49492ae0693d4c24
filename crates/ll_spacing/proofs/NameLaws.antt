-- Names, strings and what stands behind ! and #: what is whole is so before what does not go on with it.
use Rattle.std.proofs.Common.{◌≡◌, ◌<◌, ◌≤◌, ℕ, zero, suc, ◌+◌, Bool, true, false, ◌&&◌, ◌==◌, List, [], ◌∷◌, ◌++◌, length, slice_index, nat_eq, codes, refl, sym, ◌∙◌, subst, arith}
use Rattle.std.specs.List.{prefix_len, starts_with}
use Rattle.std.proofs.lemmas.List.{get_or_append_left}
use Rattle.std.proofs.lemmas.Bool.{and_parts}
use Rattle.std.proofs.lemmas.Bool.Decides.{nat_tests}
use Rattle.ll_tokens.specs.Bytes.{is_digit, is_hex_digit, is_name_byte, is_word_start, in_string}
use Rattle.ll_tokens.specs.declared.kinds.Kind.{Kind}
use Rattle.ll_tokens.specs.declared.kinds.Kind.TheVariants.{Str, Group, Record, MdNum, MdName, Bang}
use Rattle.ll_tokens.specs.Pieces.{token, closes, string_at, name_at, is_escape, escaped_len, bang_at, begins_record, hash_at}
use Rattle.ll_tokens.proofs.FitLaws.{inside}
use Rattle.ll_spacing.specs.Following.{goes_on, Stops}
use Rattle.ll_spacing.proofs.RunLaws.{run_same, first_fails, string_run, still_closes, found_inside, still_starts, index_behind}
use Rattle.ll_spacing.proofs.FoundLaws.{by_test, same_len, same_kind, no_token}
use Rattle.ll_spacing.proofs.NumberLaws.{weaker, no_digit}

-- what does not go on with a token of a kind, where that is its kind
pub stops_at : (j k : Kind) (m n : ℕ) (r : List ℕ) → Stops (goes_on k) r → token j m ≡ token k n → Stops (goes_on j) r
stops_at j k m n r stops e = subst (λ (i : Kind). Stops (goes_on i) r) (same_kind j k m n e) stops

-- ---- strings

pub string_same : (k : Kind) (bs r : List ℕ) → Stops (goes_on k) r → string_at bs ≡ token k (suc (length bs)) → string_at (bs ++ r) ≡ token k (suc (length bs))
unfolding string_at
string_same k bs r stops e =
    let n = prefix_len in_string bs in
    let whole = suc (length bs) in
    by_test (token k whole) (closes bs) _ _ e
    (λ c f.
    by_test (token k whole) (slice_index bs (1 + n) == 58) _ _ f
    (λ d g.
    let l : 1 + n < length bs = inside bs (1 + n) 58 (omega arith) d in
    rw (still_closes bs r c, string_run bs r c, get_or_append_left bs r 0 (1 + n) l, d) g)
    (λ d g.
    let len : 2 + n ≡ whole = same_len _ _ _ _ g in
    let end : 1 + n ≡ length bs = omega arith in
    let no_colon : (slice_index r 0 == 58) ≡ false = first_fails (λ b. b == 58) r refl (stops_at Str k _ whole r stops g) in
    rw (still_closes bs r c, string_run bs r c, end, index_behind bs r, no_colon) g))
    (λ c f. no_token k whole f)

-- ---- behind @ and %

pub name_same : (j k : Kind) (bs r : List ℕ) → goes_on j ≡ is_name_byte → Stops (goes_on k) r → name_at j bs ≡ token k (suc (length bs)) → name_at j (bs ++ r) ≡ token k (suc (length bs))
unfolding name_at
name_same j k [] r is stops e = no_token k 1 e
name_same j k (b ∷ bs) r is stops e =
    let whole = suc (suc (length bs)) in
    by_test (token k whole) (is_digit b) _ _ e
    (λ c f.
    let s : Stops is_name_byte r = subst (λ p. Stops p r) is (stops_at j k _ whole r stops f) in
    rw (c, run_same is_digit bs r (weaker is_digit is_name_byte r no_digit s)) f)
    (λ c f. by_test (token k whole) (is_name_byte b) _ _ f
    (λ d g.
    let s : Stops is_name_byte r = subst (λ p. Stops p r) is (stops_at j k _ whole r stops g) in
    rw (d, c, run_same is_name_byte bs r s) g)
    (λ d g. by_test (token k whole) (b == 34 && closes bs) _ _ g
    (λ q h.
    let both = and_parts (b == 34) (closes bs) q in
    rw (d, c, both.0, still_closes bs r both.1, string_run bs r both.1) h)
    (λ q h. no_token k whole h)))

-- ---- behind !

-- what goes on with a metadata name
escape_inside : (bs : List ℕ) → is_escape bs ≡ true → 2 ≤ length bs
escape_inside bs e = found_inside is_hex_digit bs 1 refl (and_parts (is_hex_digit (slice_index bs 0)) (is_hex_digit (slice_index bs 1)) e).1

still_escape : (bs r : List ℕ) → is_escape bs ≡ true → is_escape (bs ++ r) ≡ true
still_escape bs r e =
    let l = escape_inside bs e in
    rw (get_or_append_left bs r 0 0 (omega arith), get_or_append_left bs r 0 1 (omega arith)) e

no_name : (b : ℕ) → goes_on MdName b ≡ false → is_name_byte b ≡ false
no_name b e = grind (arith, nat_tests)

no_backslash : (b : ℕ) → goes_on MdName b ≡ false → (b == 92) ≡ false
no_backslash b e = grind (arith, nat_tests)

escaped_step : (b : ℕ) (bs r : List ℕ) (c d : Bool) → is_name_byte b ≡ c → (b == 92 && is_escape bs) ≡ d → escaped_len 0 (b ∷ bs) ≡ suc (length bs)
    → (escaped_len 0 bs ≡ length bs → escaped_len 0 (bs ++ r) ≡ length bs) → (2 ≤ length bs → escaped_len 2 bs ≡ length bs → escaped_len 2 (bs ++ r) ≡ length bs)
    → escaped_len 0 (b ∷ bs ++ r) ≡ suc (length bs)
escaped_step b bs r true d is esc whole one two =
    let w : 1 + escaped_len 0 bs ≡ suc (length bs) = rw is at whole in
    rw (is, one (omega arith)) (omega arith)
escaped_step b bs r false true is esc whole one two =
    let both = and_parts (b == 92) (is_escape bs) esc in
    let w : 1 + escaped_len 2 bs ≡ suc (length bs) = rw (is, esc) at whole in
    rw (is, both.0, still_escape bs r both.1, two (escape_inside bs both.1) (omega arith)) (omega arith)
escaped_step b bs r false false is esc whole one two =
    let w : 0 ≡ suc (length bs) = rw (is, esc) at whole in absurd (omega arith)

escaped_same : (skip : ℕ) (bs r : List ℕ) → skip ≤ length bs → Stops (goes_on MdName) r → escaped_len skip bs ≡ length bs → escaped_len skip (bs ++ r) ≡ length bs
escaped_same zero [] [] le stops e = refl
escaped_same zero [] (b ∷ r) le stops e = rw (no_name b stops, no_backslash b stops) refl
escaped_same (suc k) [] r le stops e = absurd (omega arith)
escaped_same zero (b ∷ bs) r le stops e =
    escaped_step b bs r (is_name_byte b) (b == 92 && is_escape bs) refl refl e (escaped_same 0 bs r (omega arith) stops) (λ l. escaped_same 2 bs r l stops)
escaped_same (suc k) (b ∷ bs) r le stops e = let w : escaped_len k bs ≡ length bs = omega arith in rw (escaped_same k bs r (omega arith) stops w) (omega arith)

-- a metadata name begins with no quote
pub no_quote_by : (b : ℕ) (bs : List ℕ) (c : Bool) → (b == 34) ≡ c → escaped_len 0 (b ∷ bs) ≡ suc (length bs) → (b == 34) ≡ false
no_quote_by b bs true q e =
    let n : is_name_byte b ≡ false = grind (arith, nat_tests) in
    let s : (b == 92) ≡ false = grind (arith, nat_tests) in
    let none : escaped_len 0 (b ∷ bs) ≡ 0 = rw (n, s) refl in
    absurd (omega arith)
no_quote_by b bs false q e = q

bang_alone : (r : List ℕ) → Stops (goes_on Bang) r → bang_at r ≡ token Bang 1
unfolding bang_at
bang_alone [] stops = refl
bang_alone (b ∷ r) stops =
    let n : is_name_byte b ≡ false = grind (arith, nat_tests) in
    let s : (b == 92) ≡ false = grind (arith, nat_tests) in
    let q : (b == 34) ≡ false = grind (arith, nat_tests) in
    rw (n, s, q, no_digit b n) refl

-- ! and a metadata name
pub md_name : (b : ℕ) (bs : List ℕ) (n : ℕ) → is_digit b ≡ false → (b == 34) ≡ false → escaped_len 0 (b ∷ bs) ≡ suc n → bang_at (b ∷ bs) ≡ token MdName (suc (suc n))
unfolding bang_at
md_name b bs n digit quote len = md_name_of b bs (escaped_len 0 (b ∷ bs)) n digit quote refl len
  where
    md_name_of : (b : ℕ) (bs : List ℕ) (l n : ℕ) → is_digit b ≡ false → (b == 34) ≡ false → escaped_len 0 (b ∷ bs) ≡ l → l ≡ suc n → bang_at (b ∷ bs) ≡ token MdName (suc (suc n))
    md_name_of b bs l n digit quote is len = let e : 1 + suc n ≡ suc (suc n) = omega arith in let some : (suc n == 0) ≡ false = grind (arith, nat_tests) in rw (is, len, some, quote, digit, e) refl

pub bang_same : (k : Kind) (bs r : List ℕ) → Stops (goes_on k) r → bang_at bs ≡ token k (suc (length bs)) → bang_at (bs ++ r) ≡ token k (suc (length bs))
unfolding bang_at
bang_same k [] r stops e = bang_alone r (stops_at Bang k 1 1 r stops e) ∙ e
bang_same k (b ∷ bs) r stops e =
    let whole = suc (suc (length bs)) in
    by_test (token k whole) (is_digit b) _ _ e
    (λ c f. let s : Stops is_digit r = stops_at MdNum k _ whole r stops f in rw (c, run_same is_digit bs r s) f)
    (λ c f. by_test (token k whole) (b == 34 && closes bs) _ _ f
    (λ d g.
    let both = and_parts (b == 34) (closes bs) d in
    rw (c, both.0, still_closes bs r both.1, string_run bs r both.1) g)
    (λ d g. by_test (token k whole) (escaped_len 0 (b ∷ bs) == 0) _ _ g
    (λ z h. let len : 1 ≡ whole = same_len _ _ _ _ h in absurd (omega arith))
    (λ z h.
    let len : 1 + escaped_len 0 (b ∷ bs) ≡ whole = same_len _ _ _ _ h in
    let all : escaped_len 0 (b ∷ bs) ≡ suc (length bs) = omega arith in
    let same : escaped_len 0 (b ∷ bs ++ r) ≡ suc (length bs) = escaped_same 0 (b ∷ bs) r (omega arith) (stops_at MdName k _ whole r stops h) all in
    let no_quote = no_quote_by b bs (b == 34) refl all in
    md_name b (bs ++ r) (length bs) c no_quote same ∙ sym (md_name b bs (length bs) c no_quote all) ∙ e)))

-- ---- behind #

pub hash_same : (k : Kind) (bs r : List ℕ) → Stops (goes_on k) r → hash_at bs ≡ token k (suc (length bs)) → hash_at (bs ++ r) ≡ token k (suc (length bs))
unfolding hash_at
hash_same k [] r stops e = no_token k 1 e
hash_same k (b ∷ bs) r stops e =
    let whole = suc (suc (length bs)) in
    by_test (token k whole) (is_digit b) _ _ e
    (λ c f. let s : Stops is_digit r = stops_at Group k _ whole r stops f in rw (run_same is_digit (b ∷ bs) r s, c) (rw c at f))
    (λ c f. by_test (token k whole) (begins_record (b ∷ bs)) _ _ f
    (λ d g.
    let both = and_parts (starts_with nat_eq (b ∷ bs) (codes "dbg_")) (is_word_start (slice_index (b ∷ bs) 4)) d in
    let l : 4 < length (b ∷ bs) = found_inside is_word_start (b ∷ bs) 4 refl both.1 in
    let still : begins_record (b ∷ bs ++ r) ≡ true = rw (still_starts (b ∷ bs) (codes "dbg_") r both.0, get_or_append_left (b ∷ bs) r 0 4 l) both.1 in
    let s : Stops is_word_start r = stops_at Record k _ whole r stops g in
    rw (still, run_same is_word_start (b ∷ bs) r s, c) g)
    (λ d g. no_token k whole g))
