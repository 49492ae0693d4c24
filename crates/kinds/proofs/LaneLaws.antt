-- A type of bits is told by its lanes.
use Rattle.std.proofs.Common.{Bool, sym, ◌≡◌, nat_eq, true, refl, ap, ◌∙◌, eq-eqb}
use Rattle.std.specs.Prelude.{◌↔◌, IsTrue}
use Rattle.std.proofs.lemmas.Bool.{eqb-true}
use Rattle.kinds.specs.declared.types.Lanes.{Lanes}
use Rattle.kinds.specs.declared.types.Lanes.TheVariants as N
use Rattle.kinds.specs.declared.fitting.Shape.TheVariants as S
use Rattle.kinds.specs.Types.{TypeTree, IntType, VectorType, shape, laned, in_lanes, bits_of, same_kind}
use Rattle.kinds.specs.Fitting.{is_bit, same_lanes, is_bits_laned}
use Rattle.kinds.proofs.TypeLaws.{and_left, and_right, kind_self, kind_told}

lanes_told : (a b : Lanes) → same_lanes a b ≡ true → a ≡ b
lanes_told N.One N.One e = refl
lanes_told N.One (N.Many l m) e = cc
lanes_told (N.Many k n) N.One e = cc
lanes_told (N.Many k n) (N.Many l m) e =
    let kinds = kind_told k l (and_left (same_kind k l) (nat_eq n m) e) in
    let counts = eqb-true n m (and_right (same_kind k l) (nat_eq n m) e) in
    cc

lanes_self : (a : Lanes) → same_lanes a a ≡ true
lanes_self N.One = refl
lanes_self (N.Many k n) = rw (kind_self k, eq-eqb n n refl) refl

-- only i1 has the shape of a bit
bit_told : (t : TypeTree) → is_bit (shape t) ≡ true → t ≡ IntType 1
bit_told (IntType w) e = ap IntType (eqb-true w 1 e)
bit_told t e = cc

-- a type whose lanes are bits is that of bits in so many lanes
laned_bits : (t : TypeTree) → is_bit (laned t).lane ≡ true → t ≡ in_lanes (laned t).lanes (IntType 1)
laned_bits (VectorType k n t) e = ap (VectorType k n) (bit_told t e)
laned_bits t e = bit_told t e

pub bits_told : (t of : TypeTree) → is_bits_laned (laned t) (laned of) ≡ true → t ≡ bits_of of
bits_told t of e =
    let lanes = lanes_told (laned t).lanes (laned of).lanes (and_right (is_bit (laned t).lane) (same_lanes (laned t).lanes (laned of).lanes) e) in
    laned_bits t (and_left (is_bit (laned t).lane) (same_lanes (laned t).lanes (laned of).lanes) e) ∙ ap (λ (l : Lanes). in_lanes l (IntType 1)) lanes

lanes_back : (l : Lanes) → laned (in_lanes l (IntType 1)) ≡ record { lanes = l; lane = S.Int 1 }
lanes_back N.One = refl
lanes_back (N.Many k n) = refl

pub bits_laned : (of : TypeTree) → is_bits_laned (laned (bits_of of)) (laned of) ≡ true
bits_laned of = rw (lanes_back (laned of).lanes) (lanes_self (laned of).lanes)

-- the same of a test
pub bits_decided : (t of : TypeTree) (b : Bool) → b ≡ is_bits_laned (laned t) (laned of) → IsTrue b ↔ t ≡ bits_of of
bits_decided t of b is = (λ h. bits_told t of (sym is ∙ h), λ h. is ∙ ap (λ (u : TypeTree). is_bits_laned (laned u) (laned of)) h ∙ bits_laned of)
