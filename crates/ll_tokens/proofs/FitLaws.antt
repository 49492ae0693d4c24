-- What it is for a piece to lie within a text, and how a test of a byte tells it.
use Rattle.std.proofs.Common.{◌≡◌, ◌<◌, ◌≤◌, ℕ, zero, suc, Bool, true, false, ◌&&◌, List, [], ◌∷◌, length, Some, None, ◌==◌, if◌then◌else◌, slice_index, refl, arith}
use Rattle.std.proofs.lemmas.Bool.{eqb-true}
use Rattle.std.proofs.lemmas.List.{get_or_past}
use Rattle.ll_tokens.specs.Pieces.{Found}

-- a piece, where there is one, has one byte at least and so many at most
abbrev pub FitsIn : ℕ → Found → Type 0
FitsIn n None = Unit {0}
FitsIn n (Some p) = (1 ≤ p.len) × (p.len ≤ n)

-- either piece fits, where it is the one
pub either : (n : ℕ) (b : Bool) (x y : Found) → (b ≡ true → FitsIn n x) → (b ≡ false → FitsIn n y) → FitsIn n (if b then x else y)
either n true x y first second = first refl
either n false x y first second = second refl

pub either_le : (n : ℕ) (b : Bool) (x y : ℕ) → (b ≡ true → x ≤ n) → (b ≡ false → y ≤ n) → (if b then x else y) ≤ n
either_le n true x y first second = first refl
either_le n false x y first second = second refl

pub and_right : (a b : Bool) → (a && b) ≡ true → b ≡ true
and_right true b e = e
and_right false true e = refl
and_right false false e = e

-- where a byte is found that is not 0, the text goes as far
pub inside : (bs : List ℕ) (i c : ℕ) → 0 < c → (slice_index bs i == c) ≡ true → i < length bs
inside [] i c some e =
    let is : slice_index [] i ≡ c = eqb-true (slice_index [] i) c e in
    let past : slice_index [] i ≡ 0 = get_or_past [] i 0 (omega arith) in
    absurd (omega arith)
inside (b ∷ bs) zero c some e = omega arith
inside (b ∷ bs) (suc i) c some e = let l = inside bs i c some e in omega arith
