-- Tokens with what stands before each, the text that they make, and when it is cut into them again.
use Rattle.std.specs.Prelude.{◌≡◌, ℕ, ◌+◌, ◌-◌, true, List, [], ◌∷◌, ◌++◌, length, take, drop, Option, Some, None, if◌then◌else◌, codes}
use Rattle.std.specs.List.{list_all}
use Rattle.ll_tokens.specs.Bytes.{is_blank}
use Rattle.ll_tokens.specs.Pieces.{token, piece_at}
use Rattle.ll_tokens.specs.Tokens.{tokens_of}
use Rattle.ll_tokens.specs.declared.kinds.Kind.{Kind}
use Rattle.ll_tokens.specs.declared.tokens.Token.{Token}
use Rattle.ll_spacing.specs.Following.{goes_on, may_follow, Stops}

-- a token to be written: what stands before it, its kind and its text
pub record Spaced : Type 0 where
  pub before : List ℕ
  pub kind : Kind
  pub text : List ℕ

abbrev pub text_of : List Spaced → List ℕ
text_of [] = []
text_of (x ∷ xs) = x.before ++ x.text ++ text_of xs

-- the tokens, where they stand in a text from that place on
abbrev pub placed : (at : ℕ) → List Spaced → List Token
placed at [] = []
placed at (x ∷ xs) =
    let start = at + length x.before in
    let end = start + length x.text in
    record { kind = x.kind; start = start; end = end } ∷ placed end xs

-- the bytes of a token
abbrev pub bytes_of : List ℕ → Token → List ℕ
bytes_of bytes t = take (t.end - t.start) (drop t.start bytes)

-- tokens of a text from that place on, each with what stands before it
abbrev pub with_gaps : (at : ℕ) (bytes : List ℕ) → List Token → List Spaced
with_gaps at bytes [] = []
with_gaps at bytes (t ∷ ts) = record { before = take (t.start - at) (drop at bytes); kind = t.kind; text = bytes_of bytes t } ∷ with_gaps t.end bytes ts

abbrev pub gaps_of : List ℕ → Option (List Token) → List Spaced
gaps_of bytes None = []
gaps_of bytes (Some ts) = with_gaps 0 bytes ts

-- the tokens of a text, each with what stands before it
unfoldable pub spaced_of : List ℕ → List Spaced
spaced_of bytes = gaps_of bytes (tokens_of bytes)

-- the text alone is one token of that kind
abbrev pub IsWhole : Kind → List ℕ → Type 0
IsWhole kind text = piece_at text ≡ token kind (length text)

abbrev pub AreBlanks : List ℕ → Type 0
AreBlanks bytes = list_all is_blank bytes ≡ true

-- a text behind a token of that kind makes no other token of it; at the front there is none
abbrev pub IsApart : Option Kind → List ℕ → Type 0
IsApart None bytes = Unit {0}
IsApart (Some kind) bytes = Stops (goes_on kind) bytes

-- a token that may be written behind one of that kind, or at the front
pub record Follows (last : Option Kind) (x : Spaced) : Type 0 where
  pub blanks : AreBlanks x.before
  pub whole : IsWhole x.kind x.text
  pub apart : IsApart last (x.before ++ x.text)

-- each may be written behind the one before it, and the first behind one of that kind
abbrev pub AreSpacedBehind : (last : Option Kind) → List Spaced → Type 0
AreSpacedBehind last [] = Unit {0}
AreSpacedBehind last (x ∷ xs) = Follows last x × AreSpacedBehind (Some x.kind) xs

abbrev pub AreSpaced : List Spaced → Type 0
AreSpaced xs = AreSpacedBehind None xs

-- the kind of the last token, if one was written
abbrev pub last_behind : (last : Option Kind) → List Spaced → Option Kind
last_behind last [] = last
last_behind last (x ∷ xs) = last_behind (Some x.kind) xs

abbrev pub last_of : List Spaced → Option Kind
last_of xs = last_behind None xs

-- what to write before a text: the given blanks, or one where there are none and the text would go on with the token before it
abbrev pub gap : (last : Option Kind) (before text : List ℕ) → List ℕ
gap (Some kind) [] (b ∷ bs) = if may_follow kind b then [] else codes " "
gap last before text = before

-- behind a token of that kind and before some text, the byte makes another token of it
pub record Spoils (kind : Kind) (b : ℕ) : Type 0 where
  pub text : List ℕ
  pub after : List ℕ
  pub whole : IsWhole kind text
  pub other : piece_at (text ++ b ∷ after) ≡ token kind (length text) → ⊥
