-- The tokens that the bytes of a text are cut into, and where a text that has none is bad.
use Rattle.std.specs.Prelude.{◌≡◌, ◌<◌, ◌≤◌, ℕ, zero, suc, ◌+◌, ◌-◌, List, [], ◌∷◌, length, drop, Option, Some, None}
use Rattle.std.specs.Option.{option_map}
use Rattle.ll_tokens.specs.declared.kinds.Kind.{Kind}
use Rattle.ll_tokens.specs.declared.piece.Piece.{Piece}
use Rattle.ll_tokens.specs.declared.tokens.Token.{Token}
use Rattle.ll_tokens.specs.Pieces.{Found, piece_at}

-- a token of that kind and length before others; blanks and comments are no tokens
abbrev pub put : Option Kind → (at len : ℕ) → Option (List Token) → Option (List Token)
put None at len found = found
put (Some k) at len found = option_map (λ (ts : List Token). record { kind = k; start = at; end = at + len } ∷ ts) found

-- the piece at the front, and the tokens behind it
abbrev pub cut : ℕ → Found → (ℕ → Option (List Token)) → Option (List Token)
cut at None others = None
cut at (Some p) others = put p.kind at p.len (others (p.len - 1))

-- the tokens of the bytes that stand at that place, of which the first ones given belong to a piece already met
unfoldable pub tokens_from : (skip at : ℕ) → List ℕ → Option (List Token)
tokens_from skip at [] = Some []
tokens_from zero at (b ∷ bs) = cut at (piece_at (b ∷ bs)) (λ k. tokens_from k (suc at) bs)
tokens_from (suc k) at (b ∷ bs) = tokens_from k (suc at) bs

-- the tokens of the bytes, none where a piece should begin and none does
abbrev pub tokens_of : List ℕ → Option (List Token)
tokens_of bytes = tokens_from 0 0 bytes

-- the bytes before a place are whole pieces
pub data IsCut (bytes : List ℕ) : ℕ → Type 0 where
  at_front : IsCut bytes 0
  behind : (place : ℕ) (p : Piece) → IsCut bytes place → piece_at (drop place bytes) ≡ Some p → IsCut bytes (place + p.len)

-- at that place a piece should begin, and none does
pub record IsBadAt (bytes : List ℕ) (place : ℕ) : Type 0 where
  pub cut : IsCut bytes place
  pub within : place < length bytes
  pub none : piece_at (drop place bytes) ≡ None

-- tokens with a byte each at least, one behind another, from a place on and up to an end
abbrev pub StandFrom : (at end : ℕ) → List Token → Type 0
StandFrom at end [] = at ≤ end
StandFrom at end (t ∷ ts) = (at ≤ t.start) × (t.start < t.end) × StandFrom t.end end ts
