-- What a map from the arguments of blocks says.
use Rattle.std.specs.Prelude.{ℕ, Bool, ◌+◌, ◌&&◌, List, Option, Some, None, nat_eq, if◌then◌else◌, slice_get, option_and_then}
use Rattle.std.specs.HashMap.{get}
use Rattle.support.specs.Maps.{MapOf}
use Rattle.support.specs.NumberMaps.{value_at}
use Rattle.support.specs.Options.{or_else}
use Rattle.dialect_core.specs.declared.numbers.BlockRef.{BlockRef}
use Rattle.dialect_core.specs.declared.ops.Value.{Value}
use Rattle.dialect_core.specs.declared.ops.Value.TheVariants.{Argument}
use Rattle.dialect_core.specs.contracts.ops.ValuePartialEq.TheImpl as keys
use Rattle.dialect_core.specs.declared.argument_map.Slot.{Slot}
use Rattle.dialect_core.specs.declared.argument_map.ArgumentMap.{ArgumentMap}

-- whether a slot is that of an argument
abbrev pub is_slot_of : {V : Type 0} → Slot V → BlockRef → ℕ → Bool
is_slot_of x b i = nat_eq x.block.0 b.0 && nat_eq x.place i

-- what a slot says of an argument: nothing where it is another's
abbrev pub said_by : {V : Type 0} → Slot V → BlockRef → ℕ → Option V
said_by x b i = if is_slot_of x b i then Some x.to else None

-- what the slots say of an argument of a block, whose first slot is at a place
abbrev pub slotted : {V : Type 0} → List (Slot V) → Option ℕ → BlockRef → ℕ → Option V
slotted xs None b i = None
slotted xs (Some s) b i = option_and_then (λ x. said_by x b i) (slice_get xs (s + i))

-- what is kept of arguments without a slot
abbrev pub far_at : {V : Type 0} → Option (MapOf Value V) → BlockRef → ℕ → Option V
far_at None b i = None
far_at (Some m) b i = get keys.eq-value.it m (Argument b i)

-- what an argument is mapped to
abbrev pub argued : {V : Type 0} → ArgumentMap V → BlockRef → ℕ → Option V
argued m b i = or_else (slotted m.slots.items (value_at m.starts b.0) b i) (far_at m.far b i)
