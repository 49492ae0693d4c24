-- Events as numbers: first those of alternatives, then those of tokens.
use Rattle.std.proofs.Common.{◌≡◌, ℕ, ◌+◌, ◌-◌, Bool, true, false, if◌then◌else◌, nat_lt, refl, arith}
use Rattle.grammars.specs.declared.symbols.Event.{Event}
use Rattle.grammars.specs.declared.symbols.Event.TheVariants.{Took, Held}

abbrev pub event_of : ℕ → Event
event_of code = if nat_lt code 65536 then Took code else Held (code - 65536)

abbrev pub code_of : Event → ℕ
code_of (Took i) = i
code_of (Held at) = 65536 + at

-- an event keeps its number
pub code_again : (n : ℕ) → code_of (event_of n) ≡ n
code_again n = by (nat_lt n 65536) refl
  where
    by : (b : Bool) → nat_lt n 65536 ≡ b → code_of (if b then Took n else Held (n - 65536)) ≡ n
    by true e = refl
    by false e = grind (arith, e)
