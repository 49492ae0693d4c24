-- Pieces that end plainly.
use Rattle.std.proofs.Common.{◌≡◌, ℕ, suc, Bool, true, false, ◌&&◌, ◌+◌, List, [], ◌∷◌, drop, get_or-drop, ◌==◌, slice_index, refl, sym, ap, ◌∙◌, arith}
use Rattle.std.specs.List.{prefix_len}
use Rattle.std.proofs.lemmas.Bool.{eqb-true}
use Rattle.ll_tokens.specs.Bytes.{ends_name, is_blank, is_digit, is_name_byte, is_word_byte, is_word_start}
use Rattle.ll_tokens.specs.Pieces.{piece_at, bare_at, number_at, digits_at, point_at, word_at, begins_hex, closes, token}
use Rattle.ll_tokens.specs.declared.kinds.Kind.TheVariants.{Int, Label, Word}

same_by : (p q : ℕ → Bool) (x : ℕ) (xs : List ℕ) (b : Bool) → p x ≡ b → ((b : ℕ) → p b ≡ true → q b ≡ true) → q (slice_index (x ∷ xs) (prefix_len p (x ∷ xs))) ≡ false
    → (q (slice_index xs (prefix_len p xs)) ≡ false → prefix_len q xs ≡ prefix_len p xs) → prefix_len q (x ∷ xs) ≡ prefix_len p (x ∷ xs)
same_by p q x xs true e wider ends rest =
    let full : prefix_len p (x ∷ xs) ≡ suc (prefix_len p xs) = rw e (omega arith) in
    let behind : q (slice_index xs (prefix_len p xs)) ≡ false = ap (λ (n : ℕ). q (slice_index (x ∷ xs) n)) (sym full) ∙ ends in
    rw (e, wider x e) (ap (λ (n : ℕ). 1 + n) (rest behind))
same_by p q x xs false e wider ends rest =
    let none : prefix_len p (x ∷ xs) ≡ 0 = rw e refl in
    let other : q x ≡ false = ap (λ (n : ℕ). q (slice_index (x ∷ xs) n)) (sym none) ∙ ends in
    rw (e, other) refl

-- where a run ends, and with it one of more kinds of bytes
pub same_run : (p q : ℕ → Bool) (xs : List ℕ) → ((b : ℕ) → p b ≡ true → q b ≡ true) → q (slice_index xs (prefix_len p xs)) ≡ false → prefix_len q xs ≡ prefix_len p xs
same_run p q [] wider ends = refl
same_run p q (x ∷ xs) wider ends = same_by p q x xs (p x) refl wider ends (same_run p q xs wider)

-- ---- bytes

word_in_name : (b : ℕ) → is_word_byte b ≡ true → is_name_byte b ≡ true
word_in_name b e = grind arith

digit_in_name : (b : ℕ) → is_digit b ≡ true → is_name_byte b ≡ true
digit_in_name b e = grind arith

start_in_word : (b : ℕ) → is_word_start b ≡ true → is_word_byte b ≡ true
start_in_word b e = grind arith

ends_no_name : (b : ℕ) → ends_name b ≡ true → is_name_byte b ≡ false
ends_no_name b e = grind arith

ends_no_colon : (b : ℕ) → ends_name b ≡ true → (b == 58) ≡ false
ends_no_colon b e = grind arith

ends_no_quote : (b : ℕ) → ends_name b ≡ true → (b == 34) ≡ false
ends_no_quote b e = grind arith

no_blank : (b : ℕ) → is_name_byte b ≡ true → is_blank b ≡ false
no_blank b e = grind arith

no_comment : (b : ℕ) → is_name_byte b ≡ true → (b == 59) ≡ false
no_comment b e = grind arith

no_global : (b : ℕ) → is_name_byte b ≡ true → (b == 64) ≡ false
no_global b e = grind arith

no_local : (b : ℕ) → is_name_byte b ≡ true → (b == 37) ≡ false
no_local b e = grind arith

no_string : (b : ℕ) → is_name_byte b ≡ true → (b == 34) ≡ false
no_string b e = grind arith

no_bang : (b : ℕ) → is_name_byte b ≡ true → (b == 33) ≡ false
no_bang b e = grind arith

no_hash : (b : ℕ) → is_name_byte b ≡ true → (b == 35) ≡ false
no_hash b e = grind arith

bare : (b : ℕ) (bs : List ℕ) → is_name_byte b ≡ true → piece_at (b ∷ bs) ≡ bare_at b bs
unfolding piece_at
bare b bs e = rw (no_blank b e, no_comment b e, no_global b e, no_local b e, no_string b e, no_bang b e, no_hash b e, e) refl

start_no_digit : (b : ℕ) → is_word_start b ≡ true → is_digit b ≡ false
start_no_digit b e = grind arith

start_no_minus : (b : ℕ) → is_word_start b ≡ true → (b == 45) ≡ false
start_no_minus b e = grind arith

start_no_dollar : (b : ℕ) → is_word_start b ≡ true → (b == 36) ≡ false
start_no_dollar b e = grind arith

start_no_point : (b : ℕ) → is_word_start b ≡ true → (b == 46) ≡ false
start_no_point b e = grind arith

and_false : (a b : Bool) → b ≡ false → (a && b) ≡ false
and_false true b e = e
and_false false b e = refl

and_none : (a b c : Bool) → b ≡ false → (a && b && c) ≡ false
and_none true b c e = rw e refl
and_none false b c e = refl

-- ---- what stands behind the first byte

starts_none : (p : ℕ → Bool) (c : ℕ) (xs : List ℕ) → p c ≡ false → slice_index xs 0 ≡ c → prefix_len p xs ≡ 0
starts_none p c [] other is = refl
starts_none p c (x ∷ xs) other is = let none : p x ≡ false = ap p is ∙ other in rw none refl

-- a byte of another kind does not stand behind the first one, where none like it ends the run
second_by : (p : ℕ → Bool) (b c : ℕ) (bs : List ℕ) (e : Bool) → (slice_index bs 0 == c) ≡ e → p b ≡ true → p c ≡ false → ends_name c ≡ false → ends_name (slice_index (b ∷ bs) (prefix_len p (b ∷ bs))) ≡ true → e ≡ false
second_by p b c bs false is first unlike other ends = refl
second_by p b c bs true is first unlike other ends =
    let same : slice_index bs 0 ≡ c = eqb-true (slice_index bs 0) c is in
    let none : prefix_len p bs ≡ 0 = starts_none p c bs unlike same in
    let one : prefix_len p (b ∷ bs) ≡ 1 = rw (first, none) refl in
    let end : ends_name (slice_index bs 0) ≡ true = ap (λ (n : ℕ). ends_name (slice_index (b ∷ bs) n)) (sym one) ∙ ends in
    sym end ∙ ap ends_name same ∙ other

second : (p : ℕ → Bool) (b c : ℕ) (bs : List ℕ) → p b ≡ true → p c ≡ false → ends_name c ≡ false → ends_name (slice_index (b ∷ bs) (prefix_len p (b ∷ bs))) ≡ true → (slice_index bs 0 == c) ≡ false
second p b c bs first unlike other ends = second_by p b c bs (slice_index bs 0 == c) refl first unlike other ends

-- ---- words and labels

pub word : (bytes : List ℕ) (n : ℕ) → is_word_start (slice_index bytes 0) ≡ true → n ≡ prefix_len is_word_byte bytes → ends_name (slice_index bytes n) ≡ true → piece_at bytes ≡ token Word n
unfolding bare_at word_at
word [] n start is ends = absurd cc
word (b ∷ bs) n start is ends =
    let here : is_word_byte b ≡ true = start_in_word b start in
    let end : ends_name (slice_index (b ∷ bs) (prefix_len is_word_byte (b ∷ bs))) ≡ true = ap (λ (k : ℕ). ends_name (slice_index (b ∷ bs) k)) (sym is) ∙ ends in
    let run : prefix_len is_name_byte (b ∷ bs) ≡ n = same_run is_word_byte is_name_byte (b ∷ bs) word_in_name (ends_no_name (slice_index (b ∷ bs) (prefix_len is_word_byte (b ∷ bs))) end) ∙ sym is in
    let no_label : (slice_index (b ∷ bs) (prefix_len is_name_byte (b ∷ bs)) == 58) ≡ false = rw run (ends_no_colon (slice_index (b ∷ bs) n) ends) in
    let no_quote : (slice_index bs 0 == 34) ≡ false = second is_word_byte b 34 bs here refl refl end in
    let no_string : (b == 99 && slice_index bs 0 == 34 && closes (drop 1 bs)) ≡ false = and_none (b == 99) _ _ no_quote in
    let len : 1 + prefix_len is_word_byte bs ≡ n = sym (is ∙ rw here refl) in
    bare b bs (word_in_name b here) ∙ rw (no_label, start_no_digit b start, start_no_minus b start, start_no_dollar b start, start_no_point b start, no_string, len) refl

pub label : (bytes : List ℕ) (n : ℕ) → is_word_start (slice_index bytes 0) ≡ true → n ≡ prefix_len is_word_byte bytes → slice_index bytes n ≡ 58 → piece_at bytes ≡ token Label (1 + n)
unfolding bare_at
label [] n start is colon = absurd cc
label (b ∷ bs) n start is colon =
    let here : is_word_byte b ≡ true = start_in_word b start in
    let no_name : is_name_byte (slice_index (b ∷ bs) (prefix_len is_word_byte (b ∷ bs))) ≡ false = ap (λ (k : ℕ). is_name_byte (slice_index (b ∷ bs) k)) (sym is) ∙ ap is_name_byte colon in
    let run : prefix_len is_name_byte (b ∷ bs) ≡ n = same_run is_word_byte is_name_byte (b ∷ bs) word_in_name no_name ∙ sym is in
    bare b bs (word_in_name b here) ∙ rw (run, colon) refl

-- ---- integers

no_point : (n : ℕ) (xs : List ℕ) → (slice_index xs 0 == 46) ≡ false → point_at n xs ≡ token Int n
unfolding point_at
no_point n [] e = refl
no_point n (x ∷ xs) e = rw e refl

ends_no_point : (b : ℕ) → ends_name b ≡ true → (b == 46) ≡ false
ends_no_point b e = grind arith

digit_first : (b : ℕ) (bs : List ℕ) → is_digit b ≡ true → (slice_index (b ∷ bs) (prefix_len is_name_byte (b ∷ bs)) == 58) ≡ false → bare_at b bs ≡ number_at (b ∷ bs)
unfolding bare_at
digit_first b bs start no_label = rw (no_label, start) refl

pub int : (bytes : List ℕ) (n : ℕ) → is_digit (slice_index bytes 0) ≡ true → n ≡ prefix_len is_digit bytes → ends_name (slice_index bytes n) ≡ true → piece_at bytes ≡ token Int n
unfolding number_at digits_at
int [] n start is ends = absurd cc
int (b ∷ bs) n start is ends =
    let end : ends_name (slice_index (b ∷ bs) (prefix_len is_digit (b ∷ bs))) ≡ true = ap (λ (k : ℕ). ends_name (slice_index (b ∷ bs) k)) (sym is) ∙ ends in
    let run : prefix_len is_name_byte (b ∷ bs) ≡ n = same_run is_digit is_name_byte (b ∷ bs) digit_in_name (ends_no_name (slice_index (b ∷ bs) (prefix_len is_digit (b ∷ bs))) end) ∙ sym is in
    let no_label : (slice_index (b ∷ bs) (prefix_len is_name_byte (b ∷ bs)) == 58) ≡ false = rw run (ends_no_colon (slice_index (b ∷ bs) n) ends) in
    let no_x : (slice_index bs 0 == 120) ≡ false = second is_digit b 120 bs start refl refl end in
    let no_hex : begins_hex (b ∷ bs) ≡ false = and_false (b == 48) _ no_x in
    let at_end : slice_index (drop n (b ∷ bs)) 0 ≡ slice_index (b ∷ bs) n = get_or-drop n (b ∷ bs) 0 0 ∙ ap (λ (k : ℕ). slice_index (b ∷ bs) k) (omega arith) in
    let behind : (slice_index (drop n (b ∷ bs)) 0 == 46) ≡ false = rw at_end (ends_no_point (slice_index (b ∷ bs) n) ends) in
    let nothing : 0 + n ≡ n = omega arith in
    let number : number_at (b ∷ bs) ≡ token Int n = rw (no_hex, ← is, nothing) (no_point n (drop n (b ∷ bs)) behind) in
    bare b bs (digit_in_name b start) ∙ digit_first b bs start no_label ∙ number
