-- The piece that a text begins with: a token of a kind, or a blank or comment, and how many bytes it has. Each is as long as it can be.
use Rattle.std.specs.Prelude.{ℕ, zero, suc, ◌+◌, Bool, ◌||◌, ◌&&◌, List, [], ◌∷◌, drop, Option, Some, None, ◌==◌, if◌then◌else◌, slice_index, nat_eq, codes}
use Rattle.std.specs.List.{prefix_len, starts_with}
use Rattle.ll_tokens.specs.Bytes.{is_blank, is_digit, is_hex_digit, is_letter_or_digit, is_name_byte, is_word_start, is_word_byte, is_plus_or_minus, is_e, in_line, in_string}
use Rattle.ll_tokens.specs.declared.kinds.Kind.{Kind}
use Rattle.ll_tokens.specs.declared.kinds.Kind.TheVariants.{Global, Local, Label, Word, Int, Str, CStr, Group, Record, MdNum, MdName, MdStr, Float, Comdat, Equals, Comma, OpenParen, CloseParen, OpenBracket, CloseBracket, OpenBrace, CloseBrace, Less, Greater, Bang, Bar, Dots}
use Rattle.ll_tokens.specs.declared.piece.Piece.{Piece}

abbrev pub Found : Type 0
Found = Option Piece

-- blanks and comments are no tokens
abbrev pub blank : ℕ → Found
blank n = Some (record { kind = None; len = n })

abbrev pub token : Kind → ℕ → Found
token k n = Some (record { kind = Some k; len = n })

-- ---- strings

-- behind the quote that begins a string: a quote ends it
abbrev pub closes : List ℕ → Bool
closes bs = slice_index bs (prefix_len in_string bs) == 34

-- a string, or a label where a colon follows, behind its first "
unfoldable pub string_at : List ℕ → Found
string_at bs =
    if closes bs then (if slice_index bs (1 + prefix_len in_string bs) == 58 then token Label (3 + prefix_len in_string bs) else token Str (2 + prefix_len in_string bs))
    else None

-- ---- names

-- behind @ or %: digits, a bare name or a string
unfoldable pub name_at : Kind → List ℕ → Found
name_at k [] = None
name_at k (b ∷ bs) =
    if is_digit b then token k (2 + prefix_len is_digit bs)
    else (if is_name_byte b then token k (2 + prefix_len is_name_byte bs)
    else (if b == 34 && closes bs then token k (3 + prefix_len in_string bs)
    else None))

-- behind a backslash: two hexadecimal digits
abbrev pub is_escape : List ℕ → Bool
is_escape bs = is_hex_digit (slice_index bs 0) && is_hex_digit (slice_index bs 1)

-- how many bytes of a metadata name the bytes begin with, of which the first ones given belong to an escape already met
abbrev pub escaped_len : ℕ → List ℕ → ℕ
escaped_len skip [] = 0
escaped_len zero (b ∷ bs) =
    if is_name_byte b then 1 + escaped_len 0 bs
    else (if b == 92 && is_escape bs then 1 + escaped_len 2 bs
    else 0)
escaped_len (suc k) (b ∷ bs) = 1 + escaped_len k bs

-- behind !: digits, a string or a metadata name; where none of them follows, ! stands alone
unfoldable pub bang_at : List ℕ → Found
bang_at [] = token Bang 1
bang_at (b ∷ bs) =
    if is_digit b then token MdNum (2 + prefix_len is_digit bs)
    else (if b == 34 && closes bs then token MdStr (3 + prefix_len in_string bs)
    else (if escaped_len 0 (b ∷ bs) == 0 then token Bang 1
    else token MdName (1 + escaped_len 0 (b ∷ bs))))

-- behind #: dbg_ and a letter or _
abbrev pub begins_record : List ℕ → Bool
begins_record bs = starts_with nat_eq bs (codes "dbg_") && is_word_start (slice_index bs 4)

-- behind #: digits or the name of a record
unfoldable pub hash_at : List ℕ → Found
hash_at bs =
    if is_digit (slice_index bs 0) then token Group (1 + prefix_len is_digit bs)
    else (if begins_record bs then token Record (1 + prefix_len is_word_start bs)
    else None)

-- ---- numbers

-- behind e or E: digits, with a sign or none, and e with them
abbrev pub power_len : List ℕ → ℕ
power_len [] = 0
power_len (b ∷ bs) = if is_digit b || (is_plus_or_minus b && is_digit (slice_index bs 0)) then 2 + prefix_len is_digit bs else 0

-- e or E and what is behind it
abbrev pub exponent_len : List ℕ → ℕ
exponent_len [] = 0
exponent_len (b ∷ bs) = if is_e b then power_len bs else 0

-- behind the point: digits, and an exponent or none
abbrev pub fraction_len : List ℕ → ℕ
fraction_len bs = prefix_len is_digit bs + exponent_len (drop (prefix_len is_digit bs) bs)

-- behind the digits, of which there are n with their minus: a point makes them a float
unfoldable pub point_at : ℕ → List ℕ → Found
point_at n [] = token Int n
point_at n (b ∷ bs) = if b == 46 then token Float (n + 1 + fraction_len bs) else token Int n

-- digits, behind n bytes of a minus
unfoldable pub digits_at : ℕ → List ℕ → Found
digits_at n bs = point_at (n + prefix_len is_digit bs) (drop (prefix_len is_digit bs) bs)

-- behind 0x: one letter or digit and more
unfoldable pub hex_at : List ℕ → Found
hex_at bs = if prefix_len is_letter_or_digit bs == 0 then None else token Float (2 + prefix_len is_letter_or_digit bs)

-- 0x, which begins a hexadecimal number
abbrev pub begins_hex : List ℕ → Bool
begins_hex bytes = slice_index bytes 0 == 48 && slice_index bytes 1 == 120

unfoldable pub number_at : List ℕ → Found
number_at bytes = if begins_hex bytes then hex_at (drop 2 bytes) else digits_at 0 bytes

-- behind a minus
unfoldable pub minus_at : List ℕ → Found
minus_at bs = if is_digit (slice_index bs 0) then digits_at 1 bs else None

-- ---- words and signs

-- behind a point: two more
unfoldable pub dots_at : List ℕ → Found
dots_at bs = if slice_index bs 0 == 46 && slice_index bs 1 == 46 then token Dots 3 else None

-- a word, or a string behind c
unfoldable pub word_at : ℕ → List ℕ → Found
word_at b bs =
    if b == 99 && slice_index bs 0 == 34 && closes (drop 1 bs) then token CStr (3 + prefix_len in_string (drop 1 bs))
    else token Word (1 + prefix_len is_word_byte bs)

-- what begins with a byte of a name: where a colon ends these bytes, they are a label
unfoldable pub bare_at : ℕ → List ℕ → Found
bare_at b bs =
    if slice_index (b ∷ bs) (prefix_len is_name_byte (b ∷ bs)) == 58 then token Label (1 + prefix_len is_name_byte (b ∷ bs))
    else (if is_digit b then number_at (b ∷ bs)
    else (if b == 45 then minus_at bs
    else (if b == 36 then token Comdat (1 + prefix_len is_name_byte bs)
    else (if b == 46 then dots_at bs
    else word_at b bs))))

-- = , ( ) [ ] { } < > |
unfoldable pub sign_at : ℕ → Found
sign_at b =
    if b == 61 then token Equals 1
    else (if b == 44 then token Comma 1
    else (if b == 40 then token OpenParen 1
    else (if b == 41 then token CloseParen 1
    else (if b == 91 then token OpenBracket 1
    else (if b == 93 then token CloseBracket 1
    else (if b == 123 then token OpenBrace 1
    else (if b == 125 then token CloseBrace 1
    else (if b == 60 then token Less 1
    else (if b == 62 then token Greater 1
    else (if b == 124 then token Bar 1
    else None))))))))))

-- ---- the piece

unfoldable pub piece_at : List ℕ → Found
piece_at [] = None
piece_at (b ∷ bs) =
    if is_blank b then blank 1
    else (if b == 59 then blank (1 + prefix_len in_line bs)
    else (if b == 64 then name_at Global bs
    else (if b == 37 then name_at Local bs
    else (if b == 34 then string_at bs
    else (if b == 33 then bang_at bs
    else (if b == 35 then hash_at bs
    else (if is_name_byte b then bare_at b bs
    else sign_at b)))))))
