-- Numbers of alternatives, where 0 stands for none.
use Rattle.std.specs.Prelude.{ℕ, zero, suc, Option, Some, None}

-- the alternative that a number names
abbrev pub some_number : ℕ → Option ℕ
some_number zero = None
some_number (suc n) = Some (suc n)
