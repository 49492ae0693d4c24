-- The lanes that stop tell it.
use Rattle.std.proofs.Common.{ℕ, leb, cond, bit_and, refl, arith}
use Rattle.std.proofs.lemmas.Simd.{zip2_splat, length-chunk}
use lib.Lanes.{chunk}
use Rattle.ll_tokens.specs.Bytes.{is_name_byte}
use Rattle.ll_tokens.proofs.LaneLaws.{joined, splat_is, short, passes}
use Rattle.ll_tokens.proofs.lanes.lane_len.Goals as goal

pub returns-clause-within : goal.returns-clause-within
returns-clause-within c =
    let v = chunk 0 16 c.args.text.now in
    let long = length-chunk 0 16 c.args.text.now (omega (arith, c.requires)) in
    short is_name_byte c.args.text.now 16 _ _ c.requires (omega arith) c.type_inv.text c.first_set.ensures _
    (joined bit_and _ _ v (joined bit_and _ _ v
    (joined (λ a b. cond (leb a b) 255 0) _ _ v (splat_is v 16 26 long) (joined _ _ _ v (zip2_splat {Y = ℕ} _ v 16 32 long) (splat_is v 16 97 long)))
    (joined (λ a b. cond (leb a b) 255 0) _ _ v (splat_is v 16 10 long) (zip2_splat {Y = ℕ} _ v 16 48 long)))
    (joined bit_and _ _ v (zip2_splat {Y = ℕ} _ v 16 95 long) (zip2_splat {Y = ℕ} _ v 16 46 long)))

pub returns-clause-run : goal.returns-clause-run
returns-clause-run c =
    let v = chunk 0 16 c.args.text.now in
    let long = length-chunk 0 16 c.args.text.now (omega (arith, c.requires)) in
    passes is_name_byte c.args.text.now 16 _ _ c.requires (omega arith) c.type_inv.text c.first_set.ensures _
    (joined bit_and _ _ v (joined bit_and _ _ v
    (joined (λ a b. cond (leb a b) 255 0) _ _ v (splat_is v 16 26 long) (joined _ _ _ v (zip2_splat {Y = ℕ} _ v 16 32 long) (splat_is v 16 97 long)))
    (joined (λ a b. cond (leb a b) 255 0) _ _ v (splat_is v 16 10 long) (zip2_splat {Y = ℕ} _ v 16 48 long)))
    (joined bit_and _ _ v (zip2_splat {Y = ℕ} _ v 16 95 long) (zip2_splat {Y = ℕ} _ v 16 46 long))) refl
