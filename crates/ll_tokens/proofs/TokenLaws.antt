-- Cutting a text into tokens, as a loop does.
use Rattle.std.proofs.Common.{◌≡◌, ℕ, zero, suc, ◌+◌, ◌-◌, ◌≤◌, ◌<◌, List, [], ◌∷◌, ◌++◌, length, length-drop, drop, drop-cons, slice_index, true, Option, Some, None, refl, sym, ap, ◌∙◌, append_assoc, arith}
use Rattle.std.specs.Option.{option_map}
use Rattle.std.proofs.lemmas.List.{append-nil}
use Rattle.ll_tokens.specs.Bytes.{is_blank}
use Rattle.ll_tokens.specs.Pieces.{blank, piece_at}
use Rattle.ll_tokens.specs.Tokens.{IsBadAt, IsCut, put, tokens_from, tokens_of}
use Rattle.ll_tokens.specs.declared.kinds.Kind.{Kind}
use Rattle.ll_tokens.specs.declared.piece.Piece.{Piece}
use Rattle.ll_tokens.specs.declared.tokens.Token.{Token}

-- tokens before those of a text
abbrev pub with_front : List Token → Option (List Token) → Option (List Token)
with_front front found = option_map (λ (ts : List Token). front ++ ts) found

-- the rest of a piece is passed over
pub passed : (n at : ℕ) (bytes : List ℕ) → n ≤ length bytes → tokens_from n at bytes ≡ tokens_from 0 (at + n) (drop n bytes)
unfolding tokens_from
passed zero at bytes le = let e : at + 0 ≡ at = omega arith in rw e refl
passed (suc n) at [] le = absurd (omega arith)
passed (suc n) at (b ∷ bytes) le = let e : at + suc n ≡ suc at + n = omega arith in rw e (passed n (suc at) bytes (omega arith))

-- one piece further
pub steps : (p : Piece) (at : ℕ) (bytes : List ℕ) → 1 ≤ p.len → p.len ≤ length bytes → piece_at bytes ≡ Some p → tokens_from 0 at bytes ≡ put p.kind at p.len (tokens_from 0 (at + p.len) (drop p.len bytes))
unfolding tokens_from
steps p at [] ge le e = absurd (omega arith)
steps p at (b ∷ bytes) ge le e = rw e (ap (put p.kind at p.len) (further p.len b bytes ge le))
  where
    further : (n : ℕ) (b : ℕ) (bytes : List ℕ) → 1 ≤ n → n ≤ length (b ∷ bytes) → tokens_from (n - 1) (suc at) bytes ≡ tokens_from 0 (at + n) (drop n (b ∷ bytes))
    further zero b bytes ge le = absurd (omega arith)
    further (suc n) b bytes ge le =
        let m : suc n - 1 ≡ n = omega arith in
        let e : at + suc n ≡ suc at + n = omega arith in
        rw (m, e) (passed n (suc at) bytes (omega arith))

pub stops : (at : ℕ) (bytes : List ℕ) → 1 ≤ length bytes → piece_at bytes ≡ None → tokens_from 0 at bytes ≡ None
unfolding tokens_from
stops at [] ge e = absurd (omega arith)
stops at (b ∷ bytes) ge e = rw e refl

pub is_done : (front : List Token) (at : ℕ) (bytes : List ℕ) (total : Option (List Token)) → length bytes ≡ 0 → with_front front (tokens_from 0 at bytes) ≡ total → total ≡ Some front
unfolding tokens_from
is_done front at [] total e so_far = sym so_far ∙ ap (λ (s : List Token). Some s) (append-nil front)
is_done front at (b ∷ bytes) total e so_far = absurd (omega arith)

put_front : (k : Kind) (at len : ℕ) (front : List Token) (found : Option (List Token)) → with_front front (put (Some k) at len found) ≡ with_front (front ++ record { kind = k; start = at; end = at + len } ∷ []) found
put_front k at len front (Some ts) = ap (λ (s : List Token). Some s) (simp append_assoc)
put_front k at len front None = refl

-- behind a token
pub goes_on : (p : Piece) (k : Kind) (at : ℕ) (front : List Token) (bytes : List ℕ) (total : Option (List Token)) → 1 ≤ p.len → p.len ≤ length bytes → piece_at bytes ≡ Some p → p.kind ≡ Some k
    → with_front front (tokens_from 0 at bytes) ≡ total → with_front (front ++ record { kind = k; start = at; end = at + p.len } ∷ []) (tokens_from 0 (at + p.len) (drop p.len bytes)) ≡ total
goes_on p k at front bytes total ge le e is_one so_far =
    let one : tokens_from 0 at bytes ≡ put (Some k) at p.len (tokens_from 0 (at + p.len) (drop p.len bytes)) = steps p at bytes ge le e ∙ rw is_one refl in
    sym (put_front k at p.len front (tokens_from 0 (at + p.len) (drop p.len bytes))) ∙ ap (with_front front) (sym one) ∙ so_far

-- behind blanks
pub passes : (p : Piece) (at : ℕ) (front : List Token) (bytes : List ℕ) (total : Option (List Token)) → 1 ≤ p.len → p.len ≤ length bytes → piece_at bytes ≡ Some p → p.kind ≡ None
    → with_front front (tokens_from 0 at bytes) ≡ total → with_front front (tokens_from 0 (at + p.len) (drop p.len bytes)) ≡ total
passes p at front bytes total ge le e is_none so_far =
    let one : tokens_from 0 at bytes ≡ tokens_from 0 (at + p.len) (drop p.len bytes) = steps p at bytes ge le e ∙ rw is_none refl in
    ap (with_front front) (sym one) ∙ so_far

-- a blank is a piece
blank_first : (b : ℕ) (bs : List ℕ) → is_blank b ≡ true → piece_at (b ∷ bs) ≡ blank 1
unfolding piece_at
blank_first b bs e = rw e refl

pub blank_at : (bytes : List ℕ) (at : ℕ) → at < length bytes → is_blank (slice_index bytes at) ≡ true → piece_at (drop at bytes) ≡ blank 1
blank_at bytes at within e = ap piece_at (drop-cons bytes at 0 within) ∙ blank_first (slice_index bytes at) (drop (suc at) bytes) e

-- a text is bad where no piece begins behind whole pieces
pub bad : (bytes : List ℕ) (place : ℕ) (front : List Token) → IsCut bytes place → place < length bytes → piece_at (drop place bytes) ≡ None
    → with_front front (tokens_from 0 place (drop place bytes)) ≡ tokens_of bytes → (tokens_of bytes ≡ None) × IsBadAt bytes place
bad bytes place front is_cut within none so_far =
    let some : 1 ≤ length (drop place bytes) = simp (length-drop) (omega arith) in
    (sym so_far ∙ ap (with_front front) (stops place (drop place bytes) some none), record { cut = is_cut; within = within; none = none })
