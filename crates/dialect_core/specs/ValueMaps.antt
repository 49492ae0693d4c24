-- What a map from values says.
use Rattle.std.specs.Prelude.{Option}
use Rattle.support.specs.NumberMaps.{value_at}
use Rattle.dialect_core.specs.declared.ops.Value.{Value}
use Rattle.dialect_core.specs.declared.ops.Value.TheVariants.{Result, Argument}
use Rattle.dialect_core.specs.declared.value_map.ValueMap.{ValueMap}
use Rattle.dialect_core.specs.ArgumentMaps.{argued}

-- what a value is mapped to
abbrev pub mapped : {V : Type 0} → ValueMap V → Value → Option V
mapped m (Result o) = value_at m.results o.0
mapped m (Argument b i) = argued m.arguments b i
