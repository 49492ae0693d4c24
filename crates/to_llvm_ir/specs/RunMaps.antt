-- What a map from values says, which keeps results of operations behind each other, and the arguments of a block.
use Rattle.std.specs.Prelude.{ℕ, ◌-◌, List, Option, None, nat_eq, nat_le, slice_get, if◌then◌else◌}
use Rattle.support.specs.Options.{or_else}
use Rattle.dialect_core.specs.declared.numbers.BlockRef.{BlockRef}
use Rattle.dialect_core.specs.declared.ops.Value.{Value}
use Rattle.dialect_core.specs.declared.ops.Value.TheVariants.{Result, Argument}
use Rattle.dialect_core.specs.ValueMaps.{mapped}
use Rattle.to_llvm_ir.specs.declared.run_map.RunMap.{RunMap}

-- what the run says of a number, where it begins with the number `first`
abbrev pub run_at : {V : Type 0} → ℕ → List V → ℕ → Option V
run_at first run q = if nat_le first q then slice_get run (q - first) else None

-- what the arguments of one block say of an argument
abbrev pub argument_at : {V : Type 0} → BlockRef → List V → BlockRef → ℕ → Option V
argument_at block arguments b i = if nat_eq block.0 b.0 then slice_get arguments i else None

-- what a value is mapped to
abbrev pub looked_up : {V : Type 0} → RunMap V → Value → Option V
looked_up m (Result o) = or_else (run_at m.first m.run.items o.0) (mapped m.others (Result o))
looked_up m (Argument b i) = or_else (argument_at m.block m.arguments.items b i) (mapped m.others (Argument b i))
