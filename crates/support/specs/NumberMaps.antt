-- What a map by numbers says. No clause of another crate cites more than `value_at`.
use Rattle.std.specs.Prelude.{ℕ, ◌-◌, List, Option, Some, None, nat_eq, nat_le, slice_get, if◌then◌else◌}
use Rattle.std.specs.HashMap.{get}
use Rattle.support.specs.Maps.{MapOf}
use Rattle.support.specs.declared.number_map.NumberMap.{NumberMap}

-- the slot of a number, in slots that begin with that of the number `base`
abbrev pub slot_at : {V : Type 0} → ℕ → List (Option V) → ℕ → Option (Option V)
slot_at base slots q = if nat_le base q then slice_get slots (q - base) else None

-- what is kept beside the slots
abbrev pub far_at : {V : Type 0} → Option (MapOf ℕ V) → ℕ → Option V
far_at None q = None
far_at (Some m) q = get nat_eq m q

-- a slot decides, where there is one
abbrev pub slot_or : {V : Type 0} → Option (Option V) → Option V → Option V
slot_or None x = x
slot_or (Some s) x = s

-- the value of a number, where it has one
abbrev pub value_at : {V : Type 0} → NumberMap V → ℕ → Option V
value_at m q = slot_or (slot_at m.base m.near.items q) (far_at m.far q)
