-- Names, strings, words and whole numbers are one token.
use Rattle.std.proofs.Common.{◌≡◌, ℕ, suc, ◌+◌, Bool, true, false, ◌==◌, List, [], ◌∷◌, ◌++◌, length, slice_index, refl, ap, ◌∙◌, arith}
use Rattle.std.specs.List.{prefix_len, list_all}
use Rattle.std.proofs.lemmas.List.{append-nil, get_or_past}
use Rattle.std.proofs.lemmas.Bool.{and_parts}
use Rattle.std.proofs.lemmas.Bool.Decides.{nat_tests}
use Rattle.ll_tokens.specs.Bytes.{is_blank, is_digit, is_name_byte, is_word_start, is_word_byte, in_string}
use Rattle.ll_tokens.specs.declared.kinds.Kind.{Kind}
use Rattle.ll_tokens.specs.declared.kinds.Kind.TheVariants.{Label, Word, Str, MdNum, MdName, MdStr, Comdat}
use Rattle.ll_tokens.specs.Pieces.{token, closes, string_at, name_at, escaped_len, bang_at, bare_at, piece_at}
use Rattle.ll_spacing.specs.Following.{Stops}
use Rattle.ll_spacing.specs.Forms.{AreDigits, AreNameBytes, IsMdName}
use Rattle.ll_spacing.proofs.RunLaws.{run_same, index_behind}
use Rattle.ll_spacing.proofs.NameLaws.{md_name, no_quote_by}
use Rattle.ll_spacing.proofs.WordLaws.{plain_word, word_front}

-- ---- runs of bytes that all pass a test

pub all_run : (p : ℕ → Bool) (xs : List ℕ) → list_all p xs ≡ true → prefix_len p xs ≡ length xs
all_run p [] e = refl
all_run p (x ∷ xs) e = let k = and_parts (p x) (list_all p xs) e in rw (k.0, all_run p xs k.1) (omega arith)

-- a run before what does not go on with it
pub run_before : (p : ℕ → Bool) (xs r : List ℕ) → list_all p xs ≡ true → Stops p r → prefix_len p (xs ++ r) ≡ length xs
run_before p xs r all stops = run_same p xs r stops ∙ all_run p xs all

pub all_weaker : (p q : ℕ → Bool) (xs : List ℕ) → ((b : ℕ) → p b ≡ true → q b ≡ true) → list_all p xs ≡ true → list_all q xs ≡ true
all_weaker p q [] f e = refl
all_weaker p q (x ∷ xs) f e = let k = and_parts (p x) (list_all p xs) e in rw (f x k.0, all_weaker p q xs f k.1) refl

pub digit_in_name : (b : ℕ) → is_digit b ≡ true → is_name_byte b ≡ true
digit_in_name b e = grind (arith, nat_tests)

word_in_name : (b : ℕ) → is_word_byte b ≡ true → is_name_byte b ≡ true
word_in_name b e = grind (arith, nat_tests)

pub name_digits : (bs : List ℕ) → AreDigits bs → AreNameBytes bs
name_digits bs e = all_weaker is_digit is_name_byte bs digit_in_name e

-- ---- strings

pub string_run : (bs r : List ℕ) → list_all in_string bs ≡ true → prefix_len in_string (bs ++ 34 ∷ r) ≡ length bs
string_run bs r e = run_before in_string bs (34 ∷ r) e refl

pub closes_there : (bs r : List ℕ) → list_all in_string bs ≡ true → closes (bs ++ 34 ∷ r) ≡ true
closes_there bs r e = rw (string_run bs r e, index_behind bs (34 ∷ r)) refl

-- what stands behind the quote that closes a string
behind_quote : (bs r : List ℕ) → slice_index (bs ++ 34 ∷ r) (1 + length bs) ≡ slice_index r 0
behind_quote [] r = refl
behind_quote (b ∷ bs) r = let e : 1 + suc (length bs) ≡ suc (1 + length bs) = omega arith in rw e (behind_quote bs r)

pub plain_string : (bs : List ℕ) → list_all in_string bs ≡ true → string_at (bs ++ 34 ∷ []) ≡ token Str (2 + length bs)
unfolding string_at
plain_string bs e = rw (closes_there bs [] e, string_run bs [] e, behind_quote bs []) refl

pub string_label : (bs : List ℕ) → list_all in_string bs ≡ true → string_at (bs ++ 34 ∷ 58 ∷ []) ≡ token Label (3 + length bs)
unfolding string_at
string_label bs e = rw (closes_there bs (58 ∷ []) e, string_run bs (58 ∷ []) e, behind_quote bs (58 ∷ [])) refl

-- ---- behind @ and %

pub bare_name : (k : Kind) (b : ℕ) (bs : List ℕ) → is_digit b ≡ false → AreNameBytes (b ∷ bs) → name_at k (b ∷ bs) ≡ token k (2 + length bs)
unfolding name_at
bare_name k b bs d e = let both = and_parts (is_name_byte b) (list_all is_name_byte bs) e in rw (both.0, d, all_run is_name_byte bs both.1) refl

pub digits_name : (k : Kind) (b : ℕ) (bs : List ℕ) → AreDigits (b ∷ bs) → name_at k (b ∷ bs) ≡ token k (2 + length bs)
unfolding name_at
digits_name k b bs e = let both = and_parts (is_digit b) (list_all is_digit bs) e in rw (both.0, all_run is_digit bs both.1) refl

pub string_name : (k : Kind) (bs : List ℕ) → list_all in_string bs ≡ true → name_at k (34 ∷ bs ++ 34 ∷ []) ≡ token k (3 + length bs)
unfolding name_at
string_name k bs e = rw (closes_there bs [] e, string_run bs [] e) refl

-- ---- behind !

escaped_run : (bs : List ℕ) → IsMdName bs → escaped_len 0 bs ≡ length bs
escaped_run bs IsMdName.nothing = refl
escaped_run bs (IsMdName.byte b ns e is) = rw (e, escaped_run ns is) (omega arith)
escaped_run bs (IsMdName.escape x y ns e f is) = rw (e, f, escaped_run ns is) (omega arith)

pub bang_number : (b : ℕ) (bs : List ℕ) → AreDigits (b ∷ bs) → bang_at (b ∷ bs) ≡ token MdNum (2 + length bs)
unfolding bang_at
bang_number b bs e = let both = and_parts (is_digit b) (list_all is_digit bs) e in rw (both.0, all_run is_digit bs both.1) refl

pub bang_name : (b : ℕ) (bs : List ℕ) → is_digit b ≡ false → IsMdName (b ∷ bs) → bang_at (b ∷ bs) ≡ token MdName (suc (suc (length bs)))
bang_name b bs d is = let all = escaped_run (b ∷ bs) is in md_name b bs (length bs) d (no_quote_by b bs (b == 34) refl all) all

pub bang_string : (bs : List ℕ) → list_all in_string bs ≡ true → bang_at (34 ∷ bs ++ 34 ∷ []) ≡ token MdStr (3 + length bs)
unfolding bang_at
bang_string bs e = rw (closes_there bs [] e, string_run bs [] e) refl

-- ---- what begins with a byte of a name

pub name_piece : (b : ℕ) (bs : List ℕ) → is_name_byte b ≡ true → piece_at (b ∷ bs) ≡ bare_at b bs
unfolding piece_at
name_piece b bs e =
    let blank : is_blank b ≡ false = grind (arith, nat_tests) in
    let comment : (b == 59) ≡ false = grind (arith, nat_tests) in
    let at : (b == 64) ≡ false = grind (arith, nat_tests) in
    let percent : (b == 37) ≡ false = grind (arith, nat_tests) in
    let quote : (b == 34) ≡ false = grind (arith, nat_tests) in
    let bang : (b == 33) ≡ false = grind (arith, nat_tests) in
    let hash : (b == 35) ≡ false = grind (arith, nat_tests) in
    rw (blank, comment, at, percent, quote, bang, hash, e) refl

pub no_colon_at : (bs : List ℕ) → AreNameBytes bs → (slice_index bs (prefix_len is_name_byte bs) == 58) ≡ false
no_colon_at bs e = rw (all_run is_name_byte bs e, get_or_past bs (length bs) 0 (omega arith)) refl

pub name_label : (b : ℕ) (bs : List ℕ) → AreNameBytes (b ∷ bs) → bare_at b (bs ++ 58 ∷ []) ≡ token Label (2 + length bs)
unfolding bare_at
name_label b bs e =
    let run : prefix_len is_name_byte (b ∷ bs ++ 58 ∷ []) ≡ suc (length bs) = run_before is_name_byte (b ∷ bs) (58 ∷ []) e refl in
    let len : 1 + suc (length bs) ≡ 2 + length bs = omega arith in
    rw (run, index_behind bs (58 ∷ []), len) refl

pub plain_comdat : (bs : List ℕ) → AreNameBytes bs → bare_at 36 bs ≡ token Comdat (1 + length bs)
unfolding bare_at
plain_comdat bs e = rw (no_colon_at (36 ∷ bs) e, all_run is_name_byte bs e) refl

pub word_whole : (b : ℕ) (bs : List ℕ) → is_word_start b ≡ true → list_all is_word_byte bs ≡ true → bare_at b bs ≡ token Word (1 + length bs)
unfolding bare_at
word_whole b bs start all =
    let name : is_name_byte b ≡ true = grind (arith, nat_tests) in
    let digit : is_digit b ≡ false = grind (arith, nat_tests) in
    let minus : (b == 45) ≡ false = grind (arith, nat_tests) in
    let dollar : (b == 36) ≡ false = grind (arith, nat_tests) in
    let point : (b == 46) ≡ false = grind (arith, nat_tests) in
    let names : AreNameBytes (b ∷ bs) = rw (name, all_weaker is_word_byte is_name_byte bs word_in_name all) refl in
    let run = all_run is_word_byte bs all in
    let same : bs ++ [] ≡ bs = append-nil bs in
    let quote : (slice_index bs 0 == 34) ≡ false = rw same at (word_front bs [] tt run) in
    rw (no_colon_at (b ∷ bs) names, digit, minus, dollar, point) (plain_word b bs quote ∙ ap (λ (n : ℕ). token Word (1 + n)) run)
