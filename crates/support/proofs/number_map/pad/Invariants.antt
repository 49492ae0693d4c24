-- What was padded so far says what the slots said.
use Rattle.std.proofs.Common.{◌≡◌, ◌+◌, ℕ, None, length}
use Rattle.support.specs.NumberMaps.{slot_at, slot_or}
use Rattle.support.proofs.number_map.pad.Given as goal

abbrev pub invariant-loop : goal.invariant-loop
invariant-loop g l = ((base q : ℕ) → slot_or (slot_at base l.slots.items q) None ≡ slot_or (slot_at base l.fn.slots.items q) None)
    × (length l.slots.items ≡ length l.fn.slots.items + l.counter)
