-- The bytes of an alignment are those of no other one, and few.
use Rattle.std.proofs.Common.{◌≡◌, ◌<◌, ◌^◌, nat_le, true, Some, refl, arith}
use Rattle.kinds.specs.declared.access.Align.{Align}
use Rattle.kinds.specs.declared.access.Align.TheVariants as A
use Rattle.kinds.specs.Access.{bytes_of, align_of}

pub align_back : (a : Align) → align_of (bytes_of a) ≡ Some a
align_back A.P0 = refl
align_back A.P1 = refl
align_back A.P2 = refl
align_back A.P3 = refl
align_back A.P4 = refl
align_back A.P5 = refl
align_back A.P6 = refl
align_back A.P7 = refl
align_back A.P8 = refl
align_back A.P9 = refl
align_back A.P10 = refl
align_back A.P11 = refl
align_back A.P12 = refl
align_back A.P13 = refl
align_back A.P14 = refl
align_back A.P15 = refl
align_back A.P16 = refl
align_back A.P17 = refl
align_back A.P18 = refl
align_back A.P19 = refl
align_back A.P20 = refl
align_back A.P21 = refl
align_back A.P22 = refl
align_back A.P23 = refl
align_back A.P24 = refl
align_back A.P25 = refl
align_back A.P26 = refl
align_back A.P27 = refl
align_back A.P28 = refl
align_back A.P29 = refl
align_back A.P30 = refl
align_back A.P31 = refl

pub few_bytes : (a : Align) → bytes_of a < 2 ^ 64
few_bytes a = grind arith

pub most_bytes : (a : Align) → nat_le (bytes_of a) (2 ^ 31) ≡ true
most_bytes A.P0 = refl
most_bytes A.P1 = refl
most_bytes A.P2 = refl
most_bytes A.P3 = refl
most_bytes A.P4 = refl
most_bytes A.P5 = refl
most_bytes A.P6 = refl
most_bytes A.P7 = refl
most_bytes A.P8 = refl
most_bytes A.P9 = refl
most_bytes A.P10 = refl
most_bytes A.P11 = refl
most_bytes A.P12 = refl
most_bytes A.P13 = refl
most_bytes A.P14 = refl
most_bytes A.P15 = refl
most_bytes A.P16 = refl
most_bytes A.P17 = refl
most_bytes A.P18 = refl
most_bytes A.P19 = refl
most_bytes A.P20 = refl
most_bytes A.P21 = refl
most_bytes A.P22 = refl
most_bytes A.P23 = refl
most_bytes A.P24 = refl
most_bytes A.P25 = refl
most_bytes A.P26 = refl
most_bytes A.P27 = refl
most_bytes A.P28 = refl
most_bytes A.P29 = refl
most_bytes A.P30 = refl
most_bytes A.P31 = refl
