-- The tokens of a text. A token is its own text: a sign, or a run of bytes that is as long as it can be.
use Rattle.std.specs.Prelude.{ℕ, Bool, true, false, ◌||◌, ◌==◌, List, [], ◌∷◌, Option, Some, None, if◌then◌else◌}
use Rattle.std.specs.List.{prefix_len}
use Rattle.std.specs.Option.{option_map}
use Rattle.kinds.specs.Names.{is_letter, is_digit}

abbrev pub Text : Type 0
Text = List ℕ

-- space, tab, CR, LF
abbrev pub is_blank : ℕ → Bool
is_blank b = b == 32 || b == 9 || b == 13 || b == 10

-- { } ( ) [ ] < > = , : ! ?
abbrev pub is_sign : ℕ → Bool
is_sign b =
    b == 123 || b == 125 || b == 40 || b == 41 || b == 91 || b == 93 || b == 60 || b == 62 || b == 61 || b == 44 || b == 58 || b == 33 || b == 63

-- letters, digits and _ . - @ % ^ # $
abbrev pub is_run_byte : ℕ → Bool
is_run_byte b = is_letter b || is_digit b || b == 95 || b == 46 || b == 45 || b == 64 || b == 37 || b == 94 || b == 35 || b == 36

abbrev pub begins_run : Text → Bool
begins_run [] = false
begins_run (b ∷ bs) = is_run_byte b

-- a byte of a run before the tokens behind it: of the first of them, where the run goes on
abbrev pub before : ℕ → Bool → List Text → List Text
before b true (t ∷ ts) = (b ∷ t) ∷ ts
before b goes_on ts = (b ∷ []) ∷ ts

-- the tokens of a text, none where a byte is of no token and no blank
abbrev pub tokens_of : Text → Option (List Text)
tokens_of [] = Some []
tokens_of (b ∷ bs) =
    if is_run_byte b then option_map (before b (begins_run bs)) (tokens_of bs)
    else (if is_sign b then option_map (λ (ts : List Text). (b ∷ []) ∷ ts) (tokens_of bs)
    else (if is_blank b then tokens_of bs
    else None))

-- how many bytes the token has that a text begins with, 0 if it begins with none
abbrev pub token_len : Text → ℕ
token_len [] = 0
token_len (b ∷ bs) = if is_run_byte b then prefix_len is_run_byte (b ∷ bs) else (if is_sign b then 1 else 0)
