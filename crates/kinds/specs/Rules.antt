-- What the words of the table say of counts.
use Rattle.std.specs.Prelude.{ℕ, Bool, true, false, if◌then◌else◌}
use Rattle.kinds.specs.declared.rules.Leads.{Leads}
use Rattle.kinds.specs.declared.rules.Leads.TheVariants as L
use Rattle.kinds.specs.declared.rules.Takes.{Takes}
use Rattle.kinds.specs.declared.rules.Takes.TheVariants as T

-- a row that leads so ends its block
abbrev pub ends : Leads → Bool
ends L.On = false
ends (L.To count) = true

-- how many blocks are named
abbrev pub target_count : Leads → ℕ
target_count L.On = 0
target_count (L.To count) = count

-- how many operands are taken, in a function that returns void or does not
abbrev pub operand_count : Takes → (returns_void : Bool) → ℕ
operand_count T.Nothing v = 0
operand_count (T.One f) v = 1
operand_count (T.Two f g) v = 2
operand_count (T.Three f g h) v = 3
operand_count T.Return v = if v then 0 else 1
