-- What holds of each row of the table: how many operands and targets it has at most, and that its words name operands before
-- their own.
use Rattle.std.proofs.Common.{◌≡◌, ◌<◌, Bool, true, false, ◌&&◌, arith}
use Rattle.kinds.specs.declared.op.Op.{Op}
use Rattle.kinds.specs.declared.op.Op.TheVariants as O
use Rattle.kinds.specs.declared.rules.Fit.{Fit}
use Rattle.kinds.specs.declared.rules.Fit.TheVariants as F
use Rattle.kinds.specs.declared.rules.Takes.{Takes}
use Rattle.kinds.specs.declared.rules.Takes.TheVariants as T
use Rattle.kinds.specs.Rules.{operand_count, target_count}
use Rattle.kinds.specs.Table.{rule_of}

-- no row leads to more than two blocks; the second line is each other row's
pub leads_few : (op : Op) → target_count (rule_of op).leads < 3
leads_few O.Unreachable = omega arith
leads_few op = omega arith

-- a line for each word
pub takes_few : (t : Takes) (v : Bool) → operand_count t v < 4
takes_few T.Nothing v = omega arith
takes_few (T.One f) v = omega arith
takes_few (T.Two f g) v = omega arith
takes_few (T.Three f g h) v = omega arith
takes_few T.Return true = omega arith
takes_few T.Return false = omega arith

-- ---- words that name an earlier operand, or none

-- a line for each word: whether the first and the second operand are earlier ones
abbrev pub names_earlier : (first second : Bool) → Fit → Bool
names_earlier first second F.Any = true
names_earlier first second F.Number = true
names_earlier first second F.Comparable = true
names_earlier first second F.Sized = true
names_earlier first second F.Address = true
names_earlier first second F.Place = true
names_earlier first second F.Bit = true
names_earlier first second F.Bits = true
names_earlier first second F.Chosen = first
names_earlier first second F.First = first
names_earlier first second F.Second = second
names_earlier first second (F.Cast by) = true

-- each word names operands before its own
abbrev pub is_ordered : Takes → Bool
is_ordered T.Nothing = true
is_ordered (T.One f) = names_earlier false false f
is_ordered (T.Two f g) = names_earlier false false f && names_earlier true false g
is_ordered (T.Three f g h) = names_earlier false false f && names_earlier true false g && names_earlier true true h
is_ordered T.Return = true

pub table_ordered : (op : Op) → is_ordered (rule_of op).takes ≡ true
table_ordered op = grind arith
