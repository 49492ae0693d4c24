-- What tokens of each kind look like.
use Rattle.std.specs.Prelude.{◌≡◌, ℕ, Bool, true, false, ◌&&◌, List, [], ◌∷◌, ◌++◌, codes}
use Rattle.std.specs.List.{list_all}
use Rattle.ll_tokens.specs.Bytes.{is_digit, is_hex_digit, is_letter_or_digit, is_name_byte, is_word_start, is_word_byte, is_plus_or_minus, in_string}
use Rattle.ll_tokens.specs.Pieces.{token, sign_at}
use Rattle.ll_tokens.specs.declared.kinds.Kind.{Kind}
use Rattle.ll_tokens.specs.declared.kinds.Kind.TheVariants.{Global, Local, Label, Word, Int, Str, CStr, Group, Record, MdNum, MdName, MdStr, Float, Comdat, Bang, Dots}

abbrev pub AreDigits : List ℕ → Type 0
AreDigits bs = list_all is_digit bs ≡ true

abbrev pub AreNameBytes : List ℕ → Type 0
AreNameBytes bs = list_all is_name_byte bs ≡ true

-- a letter or _, then letters, digits, _ and .
abbrev pub is_word : List ℕ → Bool
is_word [] = false
is_word (b ∷ bs) = is_word_start b && list_all is_word_byte bs

-- bytes between quotes, none of which is a quote
pub data IsString : List ℕ → Type 0 where
  quoted : (bs : List ℕ) → list_all in_string bs ≡ true → IsString (codes "\"" ++ bs ++ codes "\"")

-- a bare name, which begins with no digit, digits, or a string
pub data IsName : List ℕ → Type 0 where
  bare : (b : ℕ) (bs : List ℕ) → is_digit b ≡ false → AreNameBytes (b ∷ bs) → IsName (b ∷ bs)
  digits : (b : ℕ) (bs : List ℕ) → AreDigits (b ∷ bs) → IsName (b ∷ bs)
  string : (bs : List ℕ) → IsString bs → IsName bs

-- digits behind a minus or none
pub data IsInt : List ℕ → Type 0 where
  plain : (b : ℕ) (bs : List ℕ) → AreDigits (b ∷ bs) → IsInt (b ∷ bs)
  minus : (b : ℕ) (bs : List ℕ) → AreDigits (b ∷ bs) → IsInt (codes "-" ++ b ∷ bs)

-- bytes of a bare name, and escapes
pub data IsMdName : List ℕ → Type 0 where
  nothing : IsMdName []
  byte : (b : ℕ) (bs : List ℕ) → is_name_byte b ≡ true → IsMdName bs → IsMdName (b ∷ bs)
  escape : (x y : ℕ) (bs : List ℕ) → is_hex_digit x ≡ true → is_hex_digit y ≡ true → IsMdName bs → IsMdName (codes "\\" ++ x ∷ y ∷ bs)

-- a token of that kind has such a text; there are more
pub data IsText : Kind → List ℕ → Type 0 where
  sign : (kind : Kind) (b : ℕ) → sign_at b ≡ token kind 1 → IsText kind (b ∷ [])
  bang : IsText Bang (codes "!")
  dots : IsText Dots (codes "...")
  global : (bs : List ℕ) → IsName bs → IsText Global (codes "@" ++ bs)
  local : (bs : List ℕ) → IsName bs → IsText Local (codes "%" ++ bs)
  label : (bs : List ℕ) → IsName bs → IsText Label (bs ++ codes ":")
  word : (bs : List ℕ) → is_word bs ≡ true → IsText Word bs
  int : (bs : List ℕ) → IsInt bs → IsText Int bs
  point : (bs fs : List ℕ) → IsInt bs → AreDigits fs → IsText Float (bs ++ (codes "." ++ fs))
  power : (bs fs es : List ℕ) (s e : ℕ) → IsInt bs → AreDigits fs → is_plus_or_minus s ≡ true → AreDigits (e ∷ es) → IsText Float (bs ++ (codes "." ++ (fs ++ (codes "e" ++ s ∷ e ∷ es))))
  hex : (b : ℕ) (bs : List ℕ) → list_all is_letter_or_digit (b ∷ bs) ≡ true → IsText Float (codes "0x" ++ b ∷ bs)
  string : (bs : List ℕ) → IsString bs → IsText Str bs
  c_string : (bs : List ℕ) → IsString bs → IsText CStr (codes "c" ++ bs)
  group : (b : ℕ) (bs : List ℕ) → AreDigits (b ∷ bs) → IsText Group (codes "#" ++ b ∷ bs)
  dbg : (b : ℕ) (bs : List ℕ) → list_all is_word_start (b ∷ bs) ≡ true → IsText Record (codes "#dbg_" ++ b ∷ bs)
  md_number : (b : ℕ) (bs : List ℕ) → AreDigits (b ∷ bs) → IsText MdNum (codes "!" ++ b ∷ bs)
  md_name : (b : ℕ) (bs : List ℕ) → is_digit b ≡ false → IsMdName (b ∷ bs) → IsText MdName (codes "!" ++ b ∷ bs)
  md_string : (bs : List ℕ) → IsString bs → IsText MdStr (codes "!" ++ bs)
  comdat : (bs : List ℕ) → AreNameBytes bs → IsText Comdat (codes "$" ++ bs)
