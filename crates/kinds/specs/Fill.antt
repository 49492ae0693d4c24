-- Zero, undef and poison, the constants that any type has.
use Rattle.std.specs.Prelude.{Bool, true, not}
use Rattle.kinds.specs.declared.fill.Fill.{Fill}
use Rattle.kinds.specs.declared.fill.Fill.TheVariants as F
use Rattle.kinds.specs.declared.fitting.Shape.{Shape}
use Rattle.kinds.specs.Fitting.{is_number}

-- Of a type of that shape it is a constant of its own: so are undef and poison of each type, and zero of each but an integer
-- type, of which it is the integer 0.
abbrev pub is_own_fill : Fill → Shape → Bool
is_own_fill F.Zero s = not (is_number s)
is_own_fill F.Undef s = true
is_own_fill F.Poison s = true
