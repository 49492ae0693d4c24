-- Bytes that are written between quotes say themselves.
use Rattle.std.proofs.Common.{arith, ◌≡◌, ◌<◌, ◌≤◌, ℕ, ◌+◌, ◌-◌, ◌*◌, ◌/◌, ◌%◌, Bool, true, false, ◌&&◌, not, ◌==◌, nat_le, if◌then◌else◌, [], ◌∷◌, ◌++◌, suc, length, take, drop, slice_index_or, All, refl, ap, sym, ◌∙◌}
use Rattle.std.specs.List.{list_all, list_any}
use Rattle.std.proofs.lemmas.Bool.{and_from, or_parts}
use Rattle.std.proofs.lemmas.List.{take_all}
use Rattle.std.proofs.lemmas.List.Folds.{list_all-append}
use Rattle.std.proofs.lemmas.List.Elements.{All-head, All-tail}
use Rattle.ll_literals.specs.Text.{Text}
use Rattle.ll_literals.specs.Escapes.{is_hex, hex_value, hex_digit, in_quotes, unescaped, escape, escaped}

-- ---- hexadecimal digits

digit_hex : (n : ℕ) → n < 16 → is_hex (hex_digit n) ≡ true
digit_hex n h = grind arith

digit_value : (n : ℕ) → n < 16 → hex_value (hex_digit n) ≡ n
digit_value n h = grind arith

digit_no_slash : (n : ℕ) → n < 16 → (hex_digit n == 92) ≡ false
digit_no_slash n h = grind arith

digit_no_quote : (n : ℕ) → n < 16 → (hex_digit n == 34) ≡ false
digit_no_quote n h = grind arith

byte_parts : (b : ℕ) → b < 256 → (16 * (b / 16) + b % 16 ≡ b) × (b / 16 < 16) × (b % 16 < 16)
byte_parts b h = omega arith

pub says_nothing : unescaped [] ≡ []
unfolding unescaped
says_nothing = refl

-- ---- a piece that is written, and what stands behind it

-- no backslash
pub plain_first : (b : ℕ) (bs : Text) → (b == 92) ≡ false → unescaped (b ∷ bs) ≡ b ∷ unescaped bs
unfolding unescaped
plain_first b [] e = refl
plain_first b (c ∷ []) e = cc
plain_first b (c ∷ d ∷ bs) e = cc

-- two backslashes
pub slash_first : (bs : Text) → unescaped (92 ∷ 92 ∷ bs) ≡ 92 ∷ unescaped bs
unfolding unescaped
slash_first [] = refl
slash_first (d ∷ bs) = refl

-- a backslash and two digits
pub hex_first : (c d : ℕ) (bs : Text) → (c == 92) ≡ false → is_hex c ≡ true → is_hex d ≡ true → unescaped (92 ∷ c ∷ d ∷ bs) ≡ (16 * hex_value c + hex_value d) ∷ unescaped bs
unfolding unescaped
hex_first c d bs e f g = cc

digits_first : (b : ℕ) (bs : Text) → b < 256 → unescaped (92 ∷ hex_digit (b / 16) ∷ hex_digit (b % 16) ∷ bs) ≡ b ∷ unescaped bs
digits_first b bs h =
    let parts = byte_parts b h in
    let high = hex_first (hex_digit (b / 16)) (hex_digit (b % 16)) bs (digit_no_slash (b / 16) parts.1) (digit_hex (b / 16) parts.1) (digit_hex (b % 16) parts.2) in
    let v = digit_value (b / 16) parts.1 in
    let w = digit_value (b % 16) parts.2 in
    let is = parts.0 in
    cc

-- a byte as it is written says itself
escape_first : (b : ℕ) (bs : Text) → b < 256 → unescaped (escape b ++ bs) ≡ b ∷ unescaped bs
escape_first b bs h = by (b == 92) refl
  where
    plain : Bool
    plain = nat_le 32 b && nat_le b 126 && not (b == 34)

    other : (s : Bool) → plain ≡ s → (b == 92) ≡ false → unescaped (escape b ++ bs) ≡ b ∷ unescaped bs
    other true is e = let law = plain_first b bs e in cc
    other false is e = let law = digits_first b bs h in cc

    by : (s : Bool) → (b == 92) ≡ s → unescaped (escape b ++ bs) ≡ b ∷ unescaped bs
    by true is = let law = slash_first bs in let same : b ≡ 92 = grind arith in cc
    by false is = other plain refl is

-- bytes as they are written say themselves
pub escaped_says : (bs : Text) → All (λ (b : ℕ). b < 256) bs → unescaped (escaped bs) ≡ bs
unfolding unescaped
escaped_says [] h = refl
escaped_says (b ∷ bs) h =
    escape_first b (escaped bs) (All-head (λ (x : ℕ). x < 256) b bs h) ∙ ap (λ (x : Text). b ∷ x) (escaped_says bs (All-tail (λ (x : ℕ). x < 256) b bs h))

-- bytes without a backslash say themselves
pub no_slash : (bs : Text) → list_any (λ (b : ℕ). b == 92) bs ≡ false → unescaped bs ≡ bs
no_slash [] none = says_nothing
no_slash (b ∷ bs) none =
    let both = or_parts (b == 92) (list_any (λ (x : ℕ). x == 92) bs) none in
    plain_first b bs both.0 ∙ ap (λ (x : Text). b ∷ x) (no_slash bs both.1)

-- ---- where it ends

-- no byte that is written is a quote, so a text ends at the quote behind it
escape_open : (b : ℕ) → b < 256 → list_all in_quotes (escape b) ≡ true
escape_open b h = by (b == 92) refl
  where
    plain : Bool
    plain = nat_le 32 b && nat_le b 126 && not (b == 34)

    other : (s : Bool) → plain ≡ s → (b == 92) ≡ false → list_all in_quotes (escape b) ≡ true
    other true is e = let no : (b == 34) ≡ false = grind arith in cc
    other false is e = let high = digit_no_quote (b / 16) (byte_parts b h).1 in let low = digit_no_quote (b % 16) (byte_parts b h).2 in cc

    by : (s : Bool) → (b == 92) ≡ s → list_all in_quotes (escape b) ≡ true
    by true is = cc
    by false is = other plain refl is

pub escaped_open : (bs : Text) → All (λ (b : ℕ). b < 256) bs → list_all in_quotes (escaped bs) ≡ true
escaped_open [] h = refl
escaped_open (b ∷ bs) h =
    list_all-append in_quotes (escape b) (escaped bs) ∙ and_from _ _ (escape_open b (All-head (λ (x : ℕ). x < 256) b bs h)) (escaped_open bs (All-tail (λ (x : ℕ). x < 256) b bs h))

-- a backslash that no backslash and no two digits follow
lone_short : (c : ℕ) → (c == 92) ≡ false → unescaped (92 ∷ c ∷ []) ≡ 92 ∷ unescaped (c ∷ [])
unfolding unescaped
lone_short c e = cc

lone_choice : (c d v : ℕ) (x y z : Text) → (c == 92) ≡ false → (is_hex c && is_hex d) ≡ false → (if 92 == 92 && c == 92 then y else (if 92 == 92 && is_hex c && is_hex d then v ∷ x else z)) ≡ z
lone_choice c d v x y z e f = cc

lone_pair : (c d : ℕ) (bs : Text) → (c == 92) ≡ false → (is_hex c && is_hex d) ≡ false → unescaped (92 ∷ c ∷ d ∷ bs) ≡ 92 ∷ unescaped (c ∷ d ∷ bs)
unfolding unescaped
lone_pair c d bs e f = lone_choice c d (16 * hex_value c + hex_value d) (unescaped bs) (92 ∷ unescaped (d ∷ bs)) (92 ∷ unescaped (c ∷ d ∷ bs)) e f

-- ---- the first byte that is said, by what stands first

-- what a slice has behind its first byte
abbrev pub behind : Text → Text
behind bs = take (length bs - 1) (drop 1 bs)

behind_cons : (b : ℕ) (bs : Text) → behind (b ∷ bs) ≡ bs
behind_cons b bs = take_all (suc (length bs) - 1) bs (omega arith)

pub first_and_behind : (bs : Text) → 1 ≤ length bs → bs ≡ slice_index_or bs 0 0 ∷ behind bs
first_and_behind [] some = absurd (omega (arith, some))
first_and_behind (b ∷ bs) some = ap (λ (x : Text). b ∷ x) (sym (behind_cons b bs))

pub behind_shorter : (bs : Text) → 1 ≤ length bs → length (behind bs) < length bs
behind_shorter [] some = absurd (omega (arith, some))
behind_shorter (b ∷ bs) some = omega (arith, ap length (behind_cons b bs))

pub says_plain : (bs : Text) → 1 ≤ length bs → (slice_index_or bs 0 0 == 92) ≡ false → unescaped bs ≡ slice_index_or bs 0 0 ∷ unescaped (behind bs)
says_plain bs some other = ap unescaped (first_and_behind bs some) ∙ plain_first _ (behind bs) other

pub says_last : (bs : Text) → 1 ≤ length bs → slice_index_or bs 0 0 ≡ 92 → length (behind bs) < 1 → unescaped bs ≡ 92 ∷ unescaped (behind bs)
unfolding unescaped
says_last bs some is none = ap unescaped (first_and_behind bs some) ∙ by (slice_index_or bs 0 0) (behind bs) is none
  where
    by : (b : ℕ) (rest : Text) → b ≡ 92 → length rest < 1 → unescaped (b ∷ rest) ≡ 92 ∷ unescaped rest
    by b [] e few = ap (λ (x : ℕ). x ∷ []) e
    by b (c ∷ rest) e few = absurd (omega (arith, few))

pub says_slash : (bs : Text) → 1 ≤ length bs → slice_index_or bs 0 0 ≡ 92 → 1 ≤ length (behind bs) → slice_index_or (behind bs) 0 0 ≡ 92 → unescaped bs ≡ 92 ∷ unescaped (behind (behind bs))
says_slash bs some is more next =
    ap unescaped (first_and_behind bs some ∙ ap (λ (x : Text). slice_index_or bs 0 0 ∷ x) (first_and_behind (behind bs) more) ∙ (λ i. is i ∷ next i ∷ behind (behind bs)))
    ∙ slash_first (behind (behind bs))

pub says_short : (bs : Text) → 1 ≤ length bs → slice_index_or bs 0 0 ≡ 92 → 1 ≤ length (behind bs) → (slice_index_or (behind bs) 0 0 == 92) ≡ false → length (behind (behind bs)) < 1 → unescaped bs ≡ 92 ∷ unescaped (behind bs)
says_short bs some is more other none =
    ap unescaped (first_and_behind bs some) ∙ by (slice_index_or bs 0 0) (behind bs) is more other none
  where
    by : (b : ℕ) (rest : Text) → b ≡ 92 → 1 ≤ length rest → (slice_index_or rest 0 0 == 92) ≡ false → length (behind rest) < 1 → unescaped (b ∷ rest) ≡ 92 ∷ unescaped rest
    by b [] e more other none = absurd (omega (arith, more))
    by b (c ∷ []) e more other none = ap (λ (x : ℕ). unescaped (x ∷ c ∷ [])) e ∙ lone_short c other
    by b (c ∷ d ∷ rest) e more other none = absurd (omega (arith, none, ap length (behind_cons c (d ∷ rest))))

module _ (bs : Text) (some : 1 ≤ length bs) (is : slice_index_or bs 0 0 ≡ 92) (more : 1 ≤ length (behind bs)) (other : (slice_index_or (behind bs) 0 0 == 92) ≡ false) (long : 1 ≤ length (behind (behind bs))) where
  three : bs ≡ 92 ∷ slice_index_or (behind bs) 0 0 ∷ slice_index_or (behind (behind bs)) 0 0 ∷ behind (behind (behind bs))
  three =
      first_and_behind bs some
      ∙ (λ i. is i ∷ behind bs)
      ∙ ap (λ (x : Text). 92 ∷ x) (first_and_behind (behind bs) more ∙ ap (λ (x : Text). slice_index_or (behind bs) 0 0 ∷ x) (first_and_behind (behind (behind bs)) long))

  pub says_byte : is_hex (slice_index_or (behind bs) 0 0) ≡ true → is_hex (slice_index_or (behind (behind bs)) 0 0) ≡ true
      → unescaped bs ≡ (16 * hex_value (slice_index_or (behind bs) 0 0) + hex_value (slice_index_or (behind (behind bs)) 0 0)) ∷ unescaped (behind (behind (behind bs)))
  says_byte c d = ap unescaped three ∙ hex_first _ _ _ other c d

  pub says_lone : (is_hex (slice_index_or (behind bs) 0 0) && is_hex (slice_index_or (behind (behind bs)) 0 0)) ≡ false → unescaped bs ≡ 92 ∷ unescaped (behind bs)
  says_lone none =
      ap unescaped three ∙ lone_pair _ _ _ other none
      ∙ ap (λ (x : Text). 92 ∷ unescaped x) (sym (first_and_behind (behind bs) more ∙ ap (λ (x : Text). slice_index_or (behind bs) 0 0 ∷ x) (first_and_behind (behind (behind bs)) long)))

pub and_left_false : (a b : Bool) → a ≡ false → (a && b) ≡ false
and_left_false a b e = rw e refl

pub and_right_false : (a b : Bool) → b ≡ false → (a && b) ≡ false
and_right_false true b e = e
and_right_false false b e = refl
