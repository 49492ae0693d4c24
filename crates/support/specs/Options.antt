-- Options.
use Rattle.std.specs.Prelude.{Option, Some, None}

-- the first, where there is one, else the other
abbrev pub or_else : {X : Type 0} → Option X → Option X → Option X
or_else None b = b
or_else (Some x) b = Some x
