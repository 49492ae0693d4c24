-- What is a text is made of bytes.
use Rattle.std.proofs.Common.{arith, ◌≡◌, ◌<◌, ℕ, ◌+◌, ◌/◌, Bool, true, false, nat_lt, List, [], ◌∷◌, All, Some, None, refl, subst}
use Rattle.std.specs.Char.{encode_utf8}
use Rattle.std.specs.Str.{IsUtf8, is_utf8, encode_utf8_all}
use Rattle.std.proofs.lemmas.Bool.{and_parts}
use Rattle.std.proofs.lemmas.Bool.Decides.{nat_tests}
use Rattle.std.proofs.lemmas.List.Elements.{All-nil, All-cons, All-append}
use Rattle.std.proofs.lemmas.Str.{IsUtf8-from_is_utf8, is_utf8-from_IsUtf8}
use Rattle.llvm_core.specs.Checked.{is_bad_name}
use Rattle.ll_literals.specs.Names.{if_text, if_name}
use lib.Utf8.{next, scalar, scalars}

abbrev pub AreBytes : List ℕ → Type 0
AreBytes bs = All (λ (b : ℕ). b < 256) bs

byte_then : (b : ℕ) (bs : List ℕ) → b < 256 → AreBytes bs → AreBytes (b ∷ bs)
byte_then b bs = All-cons (λ (x : ℕ). x < 256) b bs

no_bytes : AreBytes []
no_bytes = All-nil (λ (x : ℕ). x < 256)

-- a scalar value is below 0x110000
scalar_small : (c : ℕ) → scalar c ≡ true → c < 1114112
scalar_small c h = grind (arith, nat_tests)

next_byte : (n : ℕ) → next n < 256
next_byte n = omega arith

-- each byte of a character is a byte
encoded_bytes : (c : ℕ) → c < 1114112 → AreBytes (encode_utf8 c)
unfolding encode_utf8
encoded_bytes c small = by (nat_lt c 128) (nat_lt c 2048) (nat_lt c 65536) refl refl refl
  where
    one : nat_lt c 128 ≡ true → c < 256
    one e = grind (arith, nat_tests)

    two : nat_lt c 2048 ≡ true → 192 + c / 64 < 256
    two e = grind (arith, nat_tests)

    three : nat_lt c 65536 ≡ true → 224 + c / 4096 < 256
    three e = grind (arith, nat_tests)

    four : 240 + c / 262144 < 256
    four = omega (arith, small)

    last : AreBytes (next c ∷ [])
    last = byte_then (next c) [] (next_byte c) no_bytes

    last_two : AreBytes (next (c / 64) ∷ next c ∷ [])
    last_two = byte_then (next (c / 64)) (next c ∷ []) (next_byte (c / 64)) last

    last_three : AreBytes (next (c / 4096) ∷ next (c / 64) ∷ next c ∷ [])
    last_three = byte_then (next (c / 4096)) (next (c / 64) ∷ next c ∷ []) (next_byte (c / 4096)) last_two

    by : (x y z : Bool) → nat_lt c 128 ≡ x → nat_lt c 2048 ≡ y → nat_lt c 65536 ≡ z → AreBytes (encode_utf8 c)
    by true y z e f g = rw e (byte_then c [] (one e) no_bytes)
    by false true z e f g = rw (e, f) (byte_then (192 + c / 64) (next c ∷ []) (two f) last)
    by false false true e f g = rw (e, f, g) (byte_then (224 + c / 4096) (next (c / 64) ∷ next c ∷ []) (three g) last_two)
    by false false false e f g = rw (e, f, g) (byte_then (240 + c / 262144) (next (c / 4096) ∷ next (c / 64) ∷ next c ∷ []) four last_three)

all_bytes : (cs : List ℕ) → scalars cs ≡ true → AreBytes (encode_utf8_all cs)
all_bytes [] h = no_bytes
all_bytes (c ∷ cs) h =
    let both = and_parts (scalar c) (scalars cs) h in
    All-append (λ (x : ℕ). x < 256) (encode_utf8 c) (encode_utf8_all cs) (encoded_bytes c (scalar_small c both.0)) (all_bytes cs both.1)

-- a text is made of bytes
pub utf8_bytes : (bs : List ℕ) → is_utf8 bs ≡ true → AreBytes bs
utf8_bytes bs h = let text = IsUtf8-from_is_utf8 bs h in subst AreBytes text.1.1 (all_bytes text.0 text.1.0)

-- bytes that are UTF-8 are a text, and others are none
pub text_if : (t bs : List ℕ) → t ≡ bs → IsUtf8 bs → Some t ≡ if_text bs
text_if t bs same h = let is = is_utf8-from_IsUtf8 bs h in cc

pub none_if : (bs : List ℕ) → ¬ IsUtf8 bs → None ≡ if_text bs
none_if bs h = by (is_utf8 bs) refl
  where
    by : (v : Bool) → is_utf8 bs ≡ v → None ≡ if_text bs
    by true e = absurd (h (IsUtf8-from_is_utf8 bs e))
    by false e = cc

-- a text that is no bad name is a name
pub name_if : (t : List ℕ) → is_bad_name t ≡ false → IsUtf8 t → Some t ≡ if_name t
name_if t fine h = let is = is_utf8-from_IsUtf8 t h in cc
