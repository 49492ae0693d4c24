-- What a call finds the type of a constant by; no clause of another crate cites this.
use Rattle.std.specs.Prelude.{ℕ, ◌<◌, List}
use Rattle.dialect_types.specs.Trees.{TypeTree, IntType, ArrayType, type_at}
use Rattle.const_attrs.specs.declared.typing.OwnType.{OwnType}
use Rattle.const_attrs.specs.declared.typing.OwnType.TheVariants.{Named, Bytes}

abbrev pub own_type : List TypeTree → OwnType → TypeTree
own_type ts (Named t) = type_at ts t
own_type ts (Bytes len) = ArrayType len (IntType 8)

abbrev pub IsOwnBelow : ℕ → OwnType → Type 0
IsOwnBelow n (Named t) = t.0 < n
IsOwnBelow n (Bytes len) = Unit {0}
