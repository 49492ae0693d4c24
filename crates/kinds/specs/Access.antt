-- Alignments in bytes.
use Rattle.std.specs.Prelude.{ℕ, nat_eq, List, [], ◌∷◌, Option}
use Rattle.std.specs.Map.{lookup}
use Rattle.kinds.specs.declared.access.Align.{Align}
use Rattle.kinds.specs.declared.access.Align.TheVariants as A

-- how many bytes it is, a line for each
abbrev pub bytes_of : Align → ℕ
bytes_of A.P0 = 1
bytes_of A.P1 = 2
bytes_of A.P2 = 4
bytes_of A.P3 = 8
bytes_of A.P4 = 16
bytes_of A.P5 = 32
bytes_of A.P6 = 64
bytes_of A.P7 = 128
bytes_of A.P8 = 256
bytes_of A.P9 = 512
bytes_of A.P10 = 1024
bytes_of A.P11 = 2048
bytes_of A.P12 = 4096
bytes_of A.P13 = 8192
bytes_of A.P14 = 16384
bytes_of A.P15 = 32768
bytes_of A.P16 = 65536
bytes_of A.P17 = 131072
bytes_of A.P18 = 262144
bytes_of A.P19 = 524288
bytes_of A.P20 = 1048576
bytes_of A.P21 = 2097152
bytes_of A.P22 = 4194304
bytes_of A.P23 = 8388608
bytes_of A.P24 = 16777216
bytes_of A.P25 = 33554432
bytes_of A.P26 = 67108864
bytes_of A.P27 = 134217728
bytes_of A.P28 = 268435456
bytes_of A.P29 = 536870912
bytes_of A.P30 = 1073741824
bytes_of A.P31 = 2147483648

-- each by its bytes
abbrev pub align_rows : List (ℕ × Align)
align_rows =
    (1, A.P0) ∷ (2, A.P1) ∷ (4, A.P2) ∷ (8, A.P3) ∷ (16, A.P4) ∷ (32, A.P5) ∷ (64, A.P6) ∷ (128, A.P7)
    ∷ (256, A.P8) ∷ (512, A.P9) ∷ (1024, A.P10) ∷ (2048, A.P11) ∷ (4096, A.P12) ∷ (8192, A.P13) ∷ (16384, A.P14) ∷ (32768, A.P15)
    ∷ (65536, A.P16) ∷ (131072, A.P17) ∷ (262144, A.P18) ∷ (524288, A.P19) ∷ (1048576, A.P20) ∷ (2097152, A.P21) ∷ (4194304, A.P22) ∷ (8388608, A.P23)
    ∷ (16777216, A.P24) ∷ (33554432, A.P25) ∷ (67108864, A.P26) ∷ (134217728, A.P27) ∷ (268435456, A.P28) ∷ (536870912, A.P29) ∷ (1073741824, A.P30) ∷ (2147483648, A.P31) ∷ []

-- that of so many bytes, none where they are no power of two up to 2^31
abbrev pub align_of : (bytes : ℕ) → Option Align
align_of n = lookup (nat_eq n) align_rows
