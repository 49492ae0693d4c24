-- Whether operands fit a row, given how many there are and the types of the first three, whatever a type is.
use Rattle.std.specs.Prelude.{ℕ, Bool, true, false, not, ◌&&◌, ◌||◌, ◌^◌, nat_eq, nat_le, nat_lt, Option, Some, None}
use Rattle.kinds.specs.declared.rules.Fit.{Fit}
use Rattle.kinds.specs.declared.rules.Fit.TheVariants as F
use Rattle.kinds.specs.declared.rules.Cast.{Cast}
use Rattle.kinds.specs.declared.rules.Cast.TheVariants as C
use Rattle.kinds.specs.declared.rules.Takes.{Takes}
use Rattle.kinds.specs.declared.rules.Takes.TheVariants as T
use Rattle.kinds.specs.declared.rules.Gives.{Gives}
use Rattle.kinds.specs.declared.rules.Gives.TheVariants as G
use Rattle.kinds.specs.declared.rules.Rule.{Rule}
use Rattle.kinds.specs.declared.fitting.Shape.{Shape}
use Rattle.kinds.specs.declared.fitting.Shape.TheVariants as S
use Rattle.kinds.specs.declared.fitting.Laned.{Laned}
use Rattle.kinds.specs.declared.fitting.TypeView.{TypeView}
use Rattle.kinds.specs.declared.types.Lanes.{Lanes}
use Rattle.kinds.specs.declared.types.Lanes.TheVariants as N
use Rattle.kinds.specs.declared.types.OtherType.TheVariants as O
use Rattle.kinds.specs.Types.{same_kind}

-- ---- shapes

-- a type of a value
abbrev pub is_value : Shape → Bool
is_value S.Void = false
is_value (S.Int w) = true
is_value (S.Pointer space) = true
is_value S.Other = true
is_value (S.Refused of) = true
is_value S.Made = true
is_value S.Named = true
is_value S.Function = false

abbrev pub is_number : Shape → Bool
is_number S.Void = false
is_number (S.Int w) = true
is_number (S.Pointer space) = false
is_number S.Other = false
is_number (S.Refused of) = false
is_number S.Made = false
is_number S.Named = false
is_number S.Function = false

-- a pointer, whose zero is null
abbrev pub is_pointer : Shape → Bool
is_pointer S.Void = false
is_pointer (S.Int w) = false
is_pointer (S.Pointer space) = true
is_pointer S.Other = false
is_pointer (S.Refused of) = false
is_pointer S.Made = false
is_pointer S.Named = false
is_pointer S.Function = false

-- i1
abbrev pub is_bit : Shape → Bool
is_bit S.Void = false
is_bit (S.Int w) = nat_eq w 1
is_bit (S.Pointer space) = false
is_bit S.Other = false
is_bit (S.Refused of) = false
is_bit S.Made = false
is_bit S.Named = false
is_bit S.Function = false

-- void
abbrev pub is_nothing : Shape → Bool
is_nothing S.Void = true
is_nothing (S.Int w) = false
is_nothing (S.Pointer space) = false
is_nothing S.Other = false
is_nothing (S.Refused of) = false
is_nothing S.Made = false
is_nothing S.Named = false
is_nothing S.Function = false

abbrev pub is_function : Shape → Bool
is_function S.Void = false
is_function (S.Int w) = false
is_function (S.Pointer space) = false
is_function S.Other = false
is_function (S.Refused of) = false
is_function S.Made = false
is_function S.Named = false
is_function S.Function = true

-- the width of an integer
abbrev pub width_of : Shape → ℕ
width_of S.Void = 0
width_of (S.Int w) = w
width_of (S.Pointer space) = 0
width_of S.Other = 0
width_of (S.Refused of) = 0
width_of S.Made = 0
width_of S.Named = 0
width_of S.Function = 0

-- a type of a value, whose width is one that there is
abbrev pub is_first_class : Shape → Bool
is_first_class S.Void = false
is_first_class (S.Int w) = nat_le 1 w && nat_le w (2 ^ 23)
is_first_class (S.Pointer space) = nat_lt space (2 ^ 24)
is_first_class S.Other = true
is_first_class (S.Refused of) = true
is_first_class S.Made = true
is_first_class S.Named = true
is_first_class S.Function = false

-- one that is translated: not so a type of values for which the dialect has no type
abbrev pub is_held : Shape → Bool
is_held S.Void = false
is_held (S.Int w) = nat_le 1 w && nat_le w (2 ^ 23)
is_held (S.Pointer space) = nat_lt space (2 ^ 24)
is_held S.Other = true
is_held (S.Refused of) = false
is_held S.Made = true
is_held S.Named = true
is_held S.Function = false

-- ---- what a type is made of

abbrev pub is_token : Shape → Bool
is_token (S.Refused O.Token) = true
is_token _ = false

abbrev pub is_amx : Shape → Bool
is_amx (S.Refused O.X86Amx) = true
is_amx _ = false

-- one that is made of others, here or by its name
abbrev pub is_made : Shape → Bool
is_made S.Made = true
is_made S.Named = true
is_made _ = false

-- a field of a struct: any type of a value but `token` (Language Reference, Structure Type)
abbrev pub is_field : Shape → Bool
is_field s = is_first_class s && not (is_token s)

-- so many of them make an array: any type of a value but `token` and `x86_amx` (Language Reference, Array Type)
abbrev pub is_array_of : ℕ → Shape → Bool
is_array_of count s = nat_lt count (2 ^ 64) && is_field s && not (is_amx s)

-- so many of them make a vector: integers, pointers or floating-point types (Language Reference, Vector Type)
abbrev pub is_vector_of : ℕ → Shape → Bool
is_vector_of count s = nat_le 1 count && nat_lt count (2 ^ 32) && is_array_of count s && not (is_made s)

-- two integers, of which the first is wider
abbrev pub is_wider : Shape → Shape → Bool
is_wider (S.Int v) (S.Int w) = nat_lt w v
is_wider _ _ = false

-- two pointers, of two address spaces
abbrev pub is_elsewhere : Shape → Shape → Bool
is_elsewhere (S.Pointer s) (S.Pointer t) = not (nat_eq s t)
is_elsewhere _ _ = false

-- an integer or a pointer
abbrev pub is_comparable : Shape → Bool
is_comparable s = is_number s || is_pointer s

-- a value of it has a size, as that of any type but `token` (Language Reference, Token Type)
abbrev pub is_sized : Shape → Bool
is_sized s = is_value s && not (is_token s)

-- a lane may be cast so: a line for each word
abbrev pub is_cast : Cast → (from to : Shape) → Bool
is_cast C.ToNarrower s t = is_wider s t
is_cast C.ToWider s t = is_wider t s
is_cast C.ToNumber s t = is_pointer s && is_number t
is_cast C.ToPointer s t = is_number s && is_pointer t
is_cast C.ToSpace s t = is_elsewhere s t

-- ---- lanes

abbrev pub is_one : Lanes → Bool
is_one N.One = true
is_one (N.Many kind count) = false

abbrev pub same_lanes : Lanes → Lanes → Bool
same_lanes N.One N.One = true
same_lanes (N.Many k n) (N.Many l m) = same_kind k l && nat_eq n m
same_lanes _ _ = false

-- a pointer, and no vector
abbrev pub is_address : Laned → Bool
is_address a = is_one a.lanes && is_pointer a.lane

-- cast lane by lane
abbrev pub is_cast_laned : Cast → (from to : Laned) → Bool
is_cast_laned by a b = same_lanes a.lanes b.lanes && is_cast by a.lane b.lane

-- each lane is chosen by one of bits, or all are by one bit
abbrev pub is_chosen_laned : (bits own : Laned) → Bool
is_chosen_laned a b = (is_one a.lanes || same_lanes a.lanes b.lanes) && is_value b.lane

-- i1, in as many lanes
abbrev pub is_bits_laned : (own of : Laned) → Bool
is_bits_laned a b = is_bit a.lane && same_lanes a.lanes b.lanes

-- ---- types by number

abbrev pub view_laned : TypeView → Laned
view_laned t = t.laned

abbrev pub view_same : TypeView → TypeView → Bool
view_same a b = nat_eq a.number b.number

-- ---- the evaluator

-- a type is whatever has lanes of a shape and a test of sameness
module _ {X : Type 0} (laned : X → Laned) (same : X → X → Bool) where
  abbrev pub is_same : Option X → X → Bool
  is_same (Some a) b = same a b
  is_same None b = false

  -- chosen by the first operand
  abbrev pub is_chosen : Option X → X → Bool
  is_chosen (Some a) own = is_chosen_laned (laned a) (laned own)
  is_chosen None own = false

  -- cast to the type that is written, where one is
  abbrev pub is_cast_to : Cast → Option X → X → Bool
  is_cast_to by (Some w) own = is_cast_laned by (laned own) (laned w)
  is_cast_to by None own = false

  -- a pointer, where what is written has a size
  abbrev pub is_place : Option X → X → Bool
  is_place (Some w) own = is_address (laned own) && is_sized (laned w).lane
  is_place None own = false

  -- a line for each word: w is the type that is written, a and b are those of the first two operands
  abbrev pub fit_one : Fit → (w a b : Option X) → X → Bool
  fit_one F.Any w a b own = is_value (laned own).lane
  fit_one F.Number w a b own = is_number (laned own).lane
  fit_one F.Comparable w a b own = is_comparable (laned own).lane
  fit_one F.Sized w a b own = is_sized (laned own).lane
  fit_one F.Address w a b own = is_address (laned own)
  fit_one F.Place w a b own = is_place w own
  fit_one F.Bit w a b own = is_one (laned own).lanes && is_bit (laned own).lane
  fit_one F.Bits w a b own = is_bit (laned own).lane
  fit_one F.Chosen w a b own = is_chosen a own
  fit_one F.First w a b own = is_same a own
  fit_one F.Second w a b own = is_same b own
  fit_one (F.Cast by) w a b own = is_cast_to by w own

  abbrev pub fit : Fit → (w a b own : Option X) → Bool
  fit by w a b None = false
  fit by w a b (Some own) = fit_one by w a b own

  -- a line for each word; what a return takes is for its function to say
  abbrev pub takes_fit : Takes → (count : ℕ) → (w a b c : Option X) → Bool
  takes_fit T.Nothing count w a b c = nat_eq count 0
  takes_fit (T.One f) count w a b c = nat_eq count 1 && fit f w a b a
  takes_fit (T.Two f g) count w a b c = nat_eq count 2 && fit f w a b a && fit g w a b b
  takes_fit (T.Three f g h) count w a b c = nat_eq count 3 && fit f w a b a && fit g w a b b && fit h w a b c
  takes_fit T.Return count w a b c = true

  abbrev pub is_no_type : Option X → Bool
  is_no_type None = true
  is_no_type (Some w) = false

  abbrev pub is_value_type : Option X → Bool
  is_value_type None = false
  is_value_type (Some w) = is_value (laned w).lane

  -- a type is written just where one is asked, and is then one of a value
  abbrev pub is_written : Gives → Option X → Bool
  is_written G.Nothing w = is_no_type w
  is_written G.First w = is_no_type w
  is_written G.Second w = is_no_type w
  is_written G.Written w = is_value_type w
  is_written G.Bits w = is_no_type w

  -- so many operands fit, of which the first three have these types, beside a written type or none
  abbrev pub fits : Rule → (count : ℕ) → (w a b c : Option X) → Bool
  fits rule count w a b c = is_written rule.gives w && takes_fit rule.takes count w a b c
