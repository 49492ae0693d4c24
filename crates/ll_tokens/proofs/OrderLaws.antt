-- The tokens of a text stand one behind another.
use Rattle.std.proofs.Common.{◌≡◌, ◌≤◌, ℕ, zero, suc, ◌+◌, ◌-◌, List, [], ◌∷◌, length, Option, Some, None, refl, subst, arith}
use Rattle.std.proofs.lemmas.Option.{none-some}
use Rattle.ll_tokens.specs.declared.kinds.Kind.{Kind}
use Rattle.ll_tokens.specs.declared.tokens.Token.{Token}
use Rattle.ll_tokens.specs.Pieces.{Found, piece_at}
use Rattle.ll_tokens.specs.Tokens.{StandFrom, put, cut, tokens_from, tokens_of}
use Rattle.ll_tokens.proofs.FitLaws.{FitsIn}
use Rattle.ll_tokens.proofs.PieceLaws.{piece_fits}

-- what stands from a place on stands from an earlier one on
earlier : (at later end : ℕ) (ts : List Token) → at ≤ later → StandFrom later end ts → StandFrom at end ts
earlier at later end [] le stand = omega arith
earlier at later end (t ∷ ts) le stand = (omega (arith, stand.0), stand.1, stand.2)

-- a piece before tokens that stand behind it
behind_piece : (k : Option Kind) (at len end : ℕ) (found : Option (List Token)) (ts : List Token) → 1 ≤ len → ((us : List Token) → found ≡ Some us → StandFrom (at + len) end us)
    → put k at len found ≡ Some ts → StandFrom at end ts
behind_piece None at len end found ts some stand e = earlier at (at + len) end ts (omega arith) (stand ts e)
behind_piece (Some k) at len end None ts some stand e = absurd (none-some ts e)
behind_piece (Some k) at len end (Some us) ts some stand e =
    let is : record { kind = k; start = at; end = at + len } ∷ us ≡ ts = cc in
    subst (λ (l : List Token). StandFrom at end l) is (omega arith, omega arith, stand us refl)

behind : (f : Found) (at n end : ℕ) (others : ℕ → Option (List Token)) (ts : List Token) → FitsIn (suc n) f
    → ((k : ℕ) (us : List Token) → k ≤ n → others k ≡ Some us → StandFrom (suc at + k) end us) → cut at f others ≡ Some ts → StandFrom at end ts
behind None at n end others ts fits stand e = absurd (none-some ts e)
behind (Some p) at n end others ts fits stand e =
    let is : suc at + (p.len - 1) ≡ at + p.len = omega (arith, fits.0) in
    behind_piece p.kind at p.len end (others (p.len - 1)) ts fits.0 (λ us f. subst (λ (m : ℕ). StandFrom m end us) is (stand (p.len - 1) us (omega (arith, fits.0, fits.1)) f)) e

stand_from : (skip at : ℕ) (bytes : List ℕ) (ts : List Token) → skip ≤ length bytes → tokens_from skip at bytes ≡ Some ts → StandFrom (at + skip) (at + length bytes) ts
unfolding tokens_from
stand_from skip at [] ts le e = let is : [] ≡ ts = cc in subst (λ (l : List Token). StandFrom (at + skip) (at + 0) l) is (omega arith)
stand_from zero at (b ∷ bs) ts le e =
    let start : at ≡ at + 0 = omega arith in
    let end : suc at + length bs ≡ at + suc (length bs) = omega arith in
    subst (λ (m : ℕ). StandFrom m (at + suc (length bs)) ts) start (subst (λ (m : ℕ). StandFrom at m ts) end
    (behind (piece_at (b ∷ bs)) at (length bs) (suc at + length bs) (λ k. tokens_from k (suc at) bs) ts (piece_fits (b ∷ bs)) (λ k us small f. stand_from k (suc at) bs us small f) e))
stand_from (suc k) at (b ∷ bs) ts le e =
    let start : suc at + k ≡ at + suc k = omega arith in
    let end : suc at + length bs ≡ at + suc (length bs) = omega arith in
    subst (λ (m : ℕ). StandFrom m (at + suc (length bs)) ts) start (subst (λ (m : ℕ). StandFrom (suc at + k) m ts) end (stand_from k (suc at) bs ts (omega arith) e))

pub stand : (bytes : List ℕ) (ts : List Token) → tokens_of bytes ≡ Some ts → StandFrom 0 (length bytes) ts
stand bytes ts e = let whole : 0 + length bytes ≡ length bytes = omega arith in subst (λ (m : ℕ). StandFrom 0 m ts) whole (stand_from 0 0 bytes ts (omega arith) e)
